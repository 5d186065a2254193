-- The cases hold: one theorem over the rows of the table.
use Rattle.model.specs.Translation.{answer_numbers, refusal_numbers, bad_length, bad_count, bad_entry, first_bad, place_room, filled, refusal, acceptance, from_walk, translation}
use Rattle.model.specs.Walk.{grow, grown, tested, handle, walk, places_of}
use Rattle.model.specs.Records.{numbers_in, row_at, rows_in, record_of, record_at, records_in, bicc_group, group_of, held_group_of, group_at, held_group_at, group, past, numbered, put, table_numbers, record_numbers, records_numbers, first, rows_from, records_from, rows_of, records_of}
use Rattle.model.specs.Places.{kind_of, next_of, place_at, same_place, member, which_of, bicc_names, return_names, names, names_at, unimp_in, unimp_behind, followers, idle_bicc, may_be_held, may_be_held_at, allowed, plains}
use Rattle.numbers.proofs.Choice.{both}
use Rattle.numbers.specs.Number.{plus, minus, signed, number_at, put_number, bytes_of, numbers_of, up_to}
use Rattle.words.specs.Reader.{bits, bit_set, operand_of, format0_of, format2_of, format3_of, set_from, register_strays, rdy_strays, wry_strays, unused_set, strictly, by_format, instruction_of, is_unimp}
use Rattle.words.specs.Conditions.{rows, bit_at, holds_of, bit_of, nzvc_of}
use Rattle.machine.specs.Ends.{ending_from}
use Rattle.effects.proofs.Opened.{machine_open, windows_open}
use Rattle.model.specs.Cases.{over, start, shown, product, end_of, ended, new_ended, step_at, cases, no_case, Row, bytes_back, given, answered, listed_at, listed, entries_told, told, begins, begins_with_y, any_windows, nested_at, any_state, each, worked, touched, moved, edge, last_bytes, stops_with, new_begins_end, entries_whole, whole_told, whole, old_closes, new_closes, old_cut, old_told, new_cut, new_told, y_told, windowed, windows_told, file_told}
use Rattle.model.specs.Trails.{shown_of, reached}
use Rattle.model.specs.Cores.{begun_with, old_mark, naming, new_mark, goes_by, new_by_held, new_trail_at}
use Rattle.model.specs.NewCore.{following, fit, does_word, holds, chooses, seek, lost, goes, stops, does, new_next, begun_at, new_begun}
use Rattle.model.specs.Run.{step, run, zeroed}
use Rattle.model.specs.StateBytes.{file_in, machine_in, old_bytes, old_begins, new_bytes, new_after, new_begins}
use Rattle.model.specs.OldCore.{in_image, word_in, transfer_of, target, follows, branches, jumps, executes, fetches, old_next, old_begun}
use Prim.Native.Nat.{ℕ, zero, suc, ◌<◌}
use mathlib.Core.Path.{◌≡◌, refl}
use mathlib.Core.Bool.{Bool, true, false, ◌&&◌, false≢true}
use mathlib.Core.List.{List, [], ◌∷◌}
use native.Mathlib.Nat.{le_of_suc-le-suc, not-suc-le-zero}
use lib.Dec.{eqb}
use lib.ListN.{length, get_or}
use borrow.Author.Tests.{eqb-true}

abbrev same_list : List ℕ → List ℕ → Bool
same_list [] [] = true
same_list [] (y ∷ ys) = false
same_list (x ∷ xs) [] = false
same_list (x ∷ xs) (y ∷ ys) = eqb x y && same_list xs ys

same_list_lem : (xs ys : List ℕ) → same_list xs ys ≡ true → xs ≡ ys
same_list_lem [] [] e = refl
same_list_lem [] (y ∷ ys) e = absurd (false≢true e)
same_list_lem (x ∷ xs) [] e = absurd (false≢true e)
same_list_lem (x ∷ xs) (y ∷ ys) e =
    let t = both (eqb x y) (same_list xs ys) e in
    let p : x ≡ y = eqb-true x y t.0 in
    let q : xs ≡ ys = same_list_lem xs ys t.1 in
    cc

abbrev all_same : List Row → Bool
all_same [] = true
all_same (r ∷ rs) = same_list r.got r.want && all_same rs

each_row : (rs : List Row) → all_same rs ≡ true → (i : ℕ) → i < length rs → (get_or rs i no_case).got ≡ (get_or rs i no_case).want
each_row [] e i h = absurd (not-suc-le-zero h)
each_row (r ∷ rs) e zero h = same_list_lem r.got r.want (both (same_list r.got r.want) (all_same rs) e).0
each_row (r ∷ rs) e (suc i) h = each_row rs (both (same_list r.got r.want) (all_same rs) e).1 i (le_of_suc-le-suc h)

-- ---------------------------------------------------------------- the definitions, opened layer by layer
-- numbers, and the words that they read as
words_open : Unit {0}
unfolding plus minus signed number_at put_number bytes_of numbers_of up_to bits bit_set operand_of format0_of format2_of format3_of set_from register_strays rdy_strays wry_strays unused_set strictly by_format instruction_of is_unimp rows bit_at holds_of bit_of nzvc_of
words_open = tt

-- the old core
old_open : Unit {0}
unfolding ending_from step run in_image word_in transfer_of target follows branches jumps executes fetches old_next old_begun
old_open = tt

-- places, and the walk that finds them
places_open : Unit {0}
unfolding kind_of next_of place_at same_place member which_of bicc_names return_names names names_at unimp_in unimp_behind followers idle_bicc may_be_held may_be_held_at allowed plains grow grown tested handle walk places_of
places_open = tt

-- records, and what is handed back
records_open : Unit {0}
unfolding numbers_in row_at rows_in record_of record_at records_in bicc_group group_of held_group_of group_at held_group_at group past numbered put table_numbers record_numbers records_numbers first rows_from records_from rows_of records_of answer_numbers refusal_numbers bad_length bad_count bad_entry first_bad place_room filled refusal acceptance from_walk translation
records_open = tt

-- the new core
new_open : Unit {0}
unfolding following fit does_word holds chooses seek lost goes stops does new_next begun_at new_begun zeroed file_in machine_in old_bytes old_begins new_bytes new_after new_begins
new_open = tt

-- trails
trails_open : Unit {0}
unfolding shown_of reached begun_with old_mark naming new_mark goes_by new_by_held new_trail_at
trails_open = tt

-- what a row shows
rows_open : Unit {0}
unfolding cases new_ended step_at bytes_back given answered listed_at listed end_of entries_told told begins begins_with_y any_windows nested_at any_state each worked touched moved edge last_bytes stops_with new_begins_end entries_whole whole_told whole old_closes new_closes old_cut old_told new_cut new_told y_told windowed windows_told file_told over start shown product ended
rows_open = tt

pub cases_hold : (i : ℕ) → i < length cases → (get_or cases i no_case).got ≡ (get_or cases i no_case).want
unfolding words_open machine_open windows_open old_open places_open records_open new_open trails_open rows_open
cases_hold = each_row cases refl
