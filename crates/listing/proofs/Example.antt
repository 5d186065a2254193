-- 01, One listing in full: its text, byte for byte, computed from the definitions.
use Rattle.numbers.specs.Number.{plus, minus, signed, number_at, bytes_of, numbers_of, up_to}
use Rattle.words.specs.Reader.{bits, bit_set, operand_of, format0_of, format2_of, format3_of, set_from, register_strays, rdy_strays, wry_strays, unused_set, strictly, by_format, instruction_of}
use Rattle.model.specs.OldCore.{in_image, word_in, transfer_of, target}
use Rattle.model.specs.Places.{kind_of, next_of, place_at, same_place, member, which_of, bicc_names, names, names_at, followers, may_be_held_at, may_be_held, idle_bicc, allowed, plains}
use Rattle.model.specs.Walk.{grow, grown, tested, handle, walk, places_of}
use Rattle.model.specs.Records.{numbers_in, bicc_group, group_of, held_group_of, group_at, held_group_at, group, past, numbered, put, first, rows_from, records_from, rows_of, records_of, table_numbers, record_numbers, records_numbers}
use Rattle.model.specs.Translation.{refusal_numbers, bad_length, bad_count, bad_entry, first_bad, place_room, filled, refusal, acceptance, from_walk, translation}
use Rattle.listing.specs.Text.{decimal_by, decimal, separator, line_of}
use Rattle.listing.specs.Listing.{place_lines, record_lines, tables, refusal_text, answer_text, listing_of}
use mathlib.Core.Path.{◌≡◌, refl}
use mathlib.Core.List.{List, [], ◌∷◌}
use Prim.Native.Nat.{ℕ}

-- ba 12; add 1 to register 1; illegal; ta 0
abbrev image : List ℕ
image = 16 ∷ 128 ∷ 0 ∷ 3 ∷ 130 ∷ 0 ∷ 96 ∷ 1 ∷ 0 ∷ 0 ∷ 0 ∷ 0 ∷ 145 ∷ 208 ∷ 32 ∷ 0 ∷ []

abbrev text : List ℕ
text =
    112 ∷ 108 ∷ 97 ∷ 99 ∷ 101 ∷ 32 ∷ 97 ∷ 100 ∷ 100 ∷ 114 ∷ 101 ∷ 115 ∷ 115 ∷ 32 ∷ 110 ∷ 101 ∷ 120 ∷ 116 ∷ 32 ∷ 107 ∷ 105 ∷ 110 ∷ 100 ∷ 32 ∷ 114 ∷ 101 ∷ 99 ∷ 111 ∷ 114 ∷ 100 ∷ 10
    ∷ 48 ∷ 32 ∷ 48 ∷ 32 ∷ 52 ∷ 32 ∷ 48 ∷ 32 ∷ 48 ∷ 10
    ∷ 49 ∷ 32 ∷ 52 ∷ 32 ∷ 49 ∷ 50 ∷ 32 ∷ 49 ∷ 32 ∷ 49 ∷ 10
    ∷ 50 ∷ 32 ∷ 49 ∷ 50 ∷ 32 ∷ 49 ∷ 54 ∷ 32 ∷ 48 ∷ 32 ∷ 51 ∷ 10
    ∷ 107 ∷ 105 ∷ 110 ∷ 100 ∷ 32 ∷ 102 ∷ 105 ∷ 114 ∷ 115 ∷ 116 ∷ 32 ∷ 115 ∷ 101 ∷ 99 ∷ 111 ∷ 110 ∷ 100 ∷ 10
    ∷ 53 ∷ 32 ∷ 49 ∷ 32 ∷ 48 ∷ 10
    ∷ 49 ∷ 32 ∷ 50 ∷ 49 ∷ 56 ∷ 49 ∷ 48 ∷ 54 ∷ 50 ∷ 54 ∷ 53 ∷ 55 ∷ 32 ∷ 48 ∷ 10
    ∷ 53 ∷ 32 ∷ 51 ∷ 32 ∷ 48 ∷ 10
    ∷ 49 ∷ 32 ∷ 50 ∷ 52 ∷ 52 ∷ 54 ∷ 51 ∷ 51 ∷ 54 ∷ 48 ∷ 48 ∷ 48 ∷ 32 ∷ 48 ∷ 10 ∷ []

pub listing_of_01 : listing_of image ≡ text
unfolding listing_of answer_text tables place_lines record_lines line_of decimal decimal_by separator refusal_text refusal_numbers translation from_walk acceptance refusal filled place_room bad_length bad_count bad_entry first_bad numbers_in places_of walk handle tested grown grow plains allowed may_be_held_at may_be_held idle_bicc followers names_at names bicc_names which_of member same_place place_at next_of kind_of rows_of records_of rows_from records_from first put numbered past group group_at held_group_at group_of held_group_of bicc_group table_numbers records_numbers record_numbers numbers_of up_to word_in in_image transfer_of target instruction_of by_format format0_of format2_of format3_of set_from register_strays rdy_strays wry_strays unused_set strictly operand_of bits bit_set signed plus minus number_at bytes_of
listing_of_01 = refl
