-- 01, Cases: those to be proved, as one table of numbers; case 0 has other readings of 01. What a row shows is computed from the definitions.
use Rattle.std.specs.Prelude.{ℕ, ◌+◌, ◌*◌, List, [], ◌∷◌, ◌++◌, map, length, get_or, set, replicate}
use Rattle.numbers.specs.Number.{bytes_of, up_to}
use Rattle.machine.specs.Ends.{Ending, ending, ending_from, Next, State, state, live}
use Rattle.machine.specs.Registers.{file_size, y_of}
use Rattle.windows.specs.Windows.{nesting_of}
use Rattle.effects.specs.Effect.{machine}
use Rattle.model.specs.Run.{run}
use Rattle.model.specs.OldCore.{Old, old, old_next, old_begun}
use Rattle.model.specs.Records.{numbers_in}
use Rattle.model.specs.NewCore.{New, new, new_next}
use Rattle.model.specs.Translation.{Handed, answer_numbers, translation}
use Rattle.model.specs.Trails.{Trail, trail, Entry, entry, entries, later, closing, reached, stood}
use Rattle.model.specs.StateBytes.{old_size, new_size, old_begins, new_begins}
use Rattle.model.specs.Cores.{Start, old_over, new_over, old_begin, new_begin, steps_for, trail_of, new_trail_at}

-- the case's number, what the definitions give, what 01 says
pub record Row : Type 0 where
  pub case : ℕ
  pub got : List ℕ
  pub want : List ℕ

-- ---------------------------------------------------------------- single words
-- an image of words at base 0, with no data
unfoldable pub over : List ℕ → Old → Next Old
over words = old_next (bytes_of words) 0 0

-- begun at 0 with one register and the flags 8N + 4Z + 2V + C set
unfoldable pub start : ℕ → ℕ → ℕ → State Old
start i v flags = old_begun 0 (machine (set (replicate file_size 0) i v) flags [])

-- an end and the number beside it; a register and the flags
unfoldable pub end_of : Ending → List ℕ
end_of (ending n v) = n ∷ v ∷ []

unfoldable pub shown : ℕ → State Old → List ℕ
shown i (state (old m pc npc annul) e) = get_or m.registers i 0 ∷ m.flags ∷ []

-- what is told of each number, one behind the other
unfoldable pub each : (ℕ → List ℕ) → List ℕ → List ℕ
each f [] = []
each f (i ∷ is) = f i ++ each f is

-- the word of format 2 with an op3, registers 1 and 2, and rd 3; of format 3 with an op3, register 1, the constant 0, and rd 2
abbrev pub of_three : ℕ → ℕ
of_three op3 = 0x86004002 + op3 * 0x80000

abbrev pub of_memory : ℕ → ℕ
of_memory op3 = 0xC4006000 + op3 * 0x80000

-- register 3 and the flags after a word, with two registers and the flags set
unfoldable pub worked : ℕ → ℕ → ℕ → ℕ → List ℕ
worked flags a b word =
    shown 3 (run (over (word ∷ [])) 1 (old_begin (record { address = 0; registers = 0 ∷ a ∷ b ∷ []; flags = flags; area = [] })))

-- register 2, the data and the end after a word, with an address in register 1 and a number in register 2, over seven bytes at data base 4,096
unfoldable pub touched : State Old → List ℕ
touched (state (old m pc npc annul) e) = get_or m.registers 2 0 ∷ m.area ++ end_of e

unfoldable pub moved : ℕ → ℕ → List ℕ
moved a word =
    let bytes : List ℕ = 0x81 ∷ 0x92 ∷ 0xA3 ∷ 0xB4 ∷ 5 ∷ 6 ∷ 7 ∷ [] in
    touched (run (old_next (bytes_of (word ∷ [])) 0 4096) 1 (old_begin (record { address = 0; registers = 0 ∷ a ∷ 0x1C2D3E4F ∷ []; flags = 0; area = bytes })))

-- register 2 and the end of a run that writes the byte at the address in register 1, reads it, and writes the byte behind it
unfoldable pub edge : State Old → List ℕ
edge (state (old m pc npc annul) e) = get_or m.registers 2 0 ∷ end_of e

unfoldable pub last_bytes : ℕ → List ℕ → List ℕ
last_bytes a area = edge (run (over (0xC2286000 ∷ 0xC4086000 ∷ 0xC2286001 ∷ [])) 3 (old_begin (record { address = 0; registers = 0 ∷ a ∷ []; flags = 0; area = area })))

-- Y, then the same
unfoldable pub product : ℕ → State Old → List ℕ
product i (state (old m pc npc annul) e) = y_of m.registers ∷ get_or m.registers i 0 ∷ m.flags ∷ []

-- the nesting, the flags, and some registers
unfoldable pub windowed : List ℕ → State Old → List ℕ
windowed is (state (old m pc npc annul) e) = nesting_of m.registers ∷ m.flags ∷ map (λ i. get_or m.registers i 0) is

unfoldable pub ended : State Old → List ℕ
ended (state s e) = end_of e

unfoldable pub new_ended : State New → List ℕ
new_ended (state s e) = end_of e

-- how the new core stands, begun at an address over an image of a length with an empty table
unfoldable pub new_begins_end : ℕ → ℕ → List ℕ
new_begins_end size a = new_ended (new_begin [] 0 size (record { address = a; registers = []; flags = 0; area = [] }))

-- how the new core stands after the step at record r, of records of three numbers each
unfoldable pub step_at : ℕ → List ℕ → List ℕ
step_at r records = new_ended (run (new_next (bytes_of records) [] 0 0 0) 1 (live (new (machine (replicate file_size 0) 0 []) r 0)))

-- after a kind 7 with a first, at record 1
unfoldable pub stops_with : ℕ → List ℕ
stops_with e = step_at 1 (1 ∷ 0x01000000 ∷ 0 ∷ 7 ∷ e ∷ 9 ∷ [])

-- ---------------------------------------------------------------- translations
-- the answer's numbers, and the bytes of both buffers
unfoldable pub bytes_back : Handed → List ℕ
bytes_back h = answer_numbers h.answer ++ h.places ++ h.records

-- the translation of an image of words at base 0, for entries and the lengths of both buffers: the answer's numbers
unfoldable pub given : List ℕ → List ℕ → ℕ → ℕ → Handed
given words entries placesLength recordsLength = translation (bytes_of words) 0 (bytes_of entries) placesLength recordsLength

unfoldable pub answered : List ℕ → ℕ → ℕ → List ℕ
answered words placesLength recordsLength = answer_numbers (given words (0 ∷ []) placesLength recordsLength).answer

-- for the image's first address: the answer's numbers, then those of both buffers, which have room for just so many places and records
unfoldable pub listed_at : ℕ → ℕ → ℕ → List ℕ → List ℕ
listed_at base p r words =
    let handed = translation (bytes_of words) base (bytes_of (base ∷ [])) (16 * p) (12 * r) in
    answer_numbers handed.answer ++ numbers_in handed.places ++ numbers_in handed.records

unfoldable pub listed : ℕ → ℕ → List ℕ → List ℕ
listed p r words = listed_at 0 p r words

-- ---------------------------------------------------------------- trails
-- of each entry: the steps that lead to it, its address and what it shows of register 1
unfoldable pub entries_told : List ℕ → List Entry → List ℕ
entries_told [] es = []
entries_told (n ∷ ns) [] = []
entries_told (n ∷ ns) (entry a m ∷ es) = n ∷ a ∷ get_or m.registers 1 0 ∷ entries_told ns es

-- and how the trail closes
unfoldable pub told : Trail → List ℕ
told t = entries_told (later t) (entries t) ++ end_of (closing t)

-- begun at an address with register 1 and the flags set, and no data
unfoldable pub begins : ℕ → ℕ → ℕ → Start
begins a v flags = record { address = a; registers = 0 ∷ v ∷ []; flags = flags; area = [] }

-- the same with Y set in place of register 1
unfoldable pub begins_with_y : ℕ → ℕ → Start
begins_with_y a y = record { address = a; registers = set (replicate file_size 0) 32 y; flags = 0; area = [] }

-- begun at 0 with a file of 1, 2, 3, ..: the nesting is above 6
unfoldable pub any_windows : Start
any_windows = record { address = 0; registers = up_to (λ i. i + 1) file_size; flags = 0; area = [] }

-- begun at 0 with 12 in register 1 and a nesting
unfoldable pub nested_at : ℕ → Start
nested_at w = record { address = 0; registers = set (set (replicate file_size 0) 1 12) 33 w; flags = 0; area = [] }

-- begun at 0 in window 3 with c and then every fourth number in the file, N, V and C, and three bytes of data
unfoldable pub any_state : ℕ → Start
any_state c = record { address = 0; registers = set (up_to (λ i. 4 * i + c) file_size) 33 3; flags = 11; area = 1 ∷ 2 ∷ 3 ∷ [] }

-- the old core's trail over an image of words at base 0, cut at k entries
unfoldable pub old_cut : List ℕ → Start → ℕ → Trail
old_cut words x k = trail_of (old_over (bytes_of words) 0 0) k (old_begin x)

unfoldable pub old_told : List ℕ → Start → ℕ → List ℕ
old_told words x k = told (old_cut words x k)

-- the new core's over its translation for entry 0, which has just so many places and records
unfoldable pub new_cut : ℕ → ℕ → List ℕ → Start → ℕ → Trail
new_cut p r words x k =
    let handed = given words (0 ∷ []) (16 * p) (12 * r) in
    let size = length (bytes_of words) in
    new_trail_at (new_over handed.records handed.places 0 size 0) (steps_for k) k x.address (new_begin handed.places 0 size x)

unfoldable pub new_told : ℕ → ℕ → List ℕ → Start → ℕ → List ℕ
new_told p r words x k = told (new_cut p r words x k)

-- what each entry shows of Y
unfoldable pub y_told : List Entry → List ℕ
y_told [] = []
y_told (entry a m ∷ es) = y_of m.registers ∷ y_told es

-- what each shows of the nesting, of local 0 of window 0, in 0 of window 1 and local 0 of window 1; and the whole file
unfoldable pub windows_told : List Entry → List ℕ
windows_told [] = []
windows_told (entry a m ∷ es) = nesting_of m.registers ∷ get_or m.registers 42 0 ∷ get_or m.registers 50 0 ∷ get_or m.registers 58 0 ∷ windows_told es

unfoldable pub file_told : List Entry → List ℕ
file_told [] = []
file_told (entry a m ∷ es) = m.registers ++ file_told es

-- all of each entry: its address, the file, the flags and the data; and how the trail closes
unfoldable pub entries_whole : List Entry → List ℕ
entries_whole [] = []
entries_whole (entry a m ∷ es) = a ∷ m.registers ++ (m.flags ∷ m.area ++ entries_whole es)

unfoldable pub whole_told : Trail → List ℕ
whole_told t = entries_whole (entries t) ++ end_of (closing t)

-- an entry so: begun by `any_state c`, at a, with r in register 1. The ins, locals and outs of window 3 stand from 82 on
unfoldable pub whole : ℕ → ℕ → ℕ → ℕ → List ℕ → List ℕ
whole c a r flags bytes =
    a ∷ 0 ∷ r ∷ up_to (λ i. 4 * i + (8 + c)) 31
    ++ (3 ∷ up_to (λ i. 4 * i + (136 + c)) 48 ++ up_to (λ i. 4 * i + (96 + c)) 8 ++ up_to (λ i. 4 * i + (64 + c)) 8 ++ up_to (λ i. 4 * i + (32 + c)) 8
    ++ up_to (λ i. 4 * i + (424 + c)) 56 ++ (flags ∷ bytes))

-- ---------------------------------------------------------------- images
-- register 1 to local 0 and to out 0; a save; register 1 to local 0; ta 0
abbrev pub windows : List ℕ
windows = 0xA0100001 ∷ 0x90100001 ∷ 0x81E00000 ∷ 0xA0100001 ∷ 0x91D02000 ∷ []

-- ba 12; add 1 to register 1; illegal; ta 0
abbrev pub p1 : List ℕ
p1 = 0x10800003 ∷ 0x82006001 ∷ 0x00000000 ∷ 0x91D02000 ∷ []

-- ba 16 at 0, ba 24 at 4, add at 16, ta at 24, else 0
abbrev pub p2 : List ℕ
p2 = 0x10800004 ∷ 0x10800005 ∷ 0 ∷ 0 ∷ 0x82006001 ∷ 0 ∷ 0x91D02000 ∷ []

-- ba 8 at 0
abbrev pub p3 : List ℕ
p3 = 0x10800002 ∷ 0x82006001 ∷ 0x91D02000 ∷ []

-- be,a 16 at 0
abbrev pub p4 : List ℕ
p4 = 0x22800004 ∷ 0x82006001 ∷ 0x82006001 ∷ 0x91D02000 ∷ 0x91D02000 ∷ []

-- jmpl through register 15 without link, then ba
abbrev pub p7 : List ℕ
p7 = 0x81C3E008 ∷ 0x10800003 ∷ []

-- subcc %g0, 1, %g1; addcc %g1, 1, %g1; jmpl %g1 + 0, %g1
abbrev pub p8 : List ℕ
p8 = 0x82A02001 ∷ []

abbrev pub p9 : List ℕ
p9 = 0x82806001 ∷ []

abbrev pub p10 : List ℕ
p10 = 0x83C06000 ∷ []

-- a word that does nothing, and call 8 further; the word of P10 with words that do nothing behind it
abbrev pub nop : ℕ
nop = 0x01000000

abbrev pub calls_on : List ℕ
calls_on = nop ∷ 0x40000002 ∷ nop ∷ nop ∷ []

abbrev pub jumps_on : List ℕ
jumps_on = 0x83C06000 ∷ nop ∷ nop ∷ nop ∷ nop ∷ []

-- ld [%g1], %g2
abbrev pub loads : List ℕ
loads = 0xC4006000 ∷ []

-- call 12; nop; ta 0; jmpl %o7 + 8, as a function returns; nop
abbrev pub returns : List ℕ
returns = 0x40000003 ∷ nop ∷ 0x91D02000 ∷ 0x81C3E008 ∷ nop ∷ []

-- ba 16; a word in its delay slot; ta 1 at 12; nop; ta 0 at 24, else 0
abbrev pub slotted : ℕ → List ℕ
slotted word = 0x10800004 ∷ word ∷ 0 ∷ 0x91D02001 ∷ nop ∷ 0 ∷ 0x91D02000 ∷ []

-- jmpl %g1 + 0 without link; add 1 to register 1; two words that nothing names
abbrev pub strays : List ℕ
strays = 0x81C06000 ∷ 0x82006001 ∷ nop ∷ nop ∷ []

-- a branch to 12 or elsewhere; add 1 to register 1; ta 1; ta 0
abbrev pub forks : ℕ → List ℕ
forks branch = branch ∷ 0x82006001 ∷ 0x91D02001 ∷ 0x91D02000 ∷ []

-- be 16; nop; a jmpl that holds ba; another one
abbrev pub two_forbidden : List ℕ
two_forbidden = 0x02800004 ∷ nop ∷ 0x81C3E008 ∷ 0x10800003 ∷ 0x81C3E008 ∷ 0x10800003 ∷ []

-- a call 16 further, or a jmpl; nop; what stands at p + 8; ta 0; ta 1
abbrev pub record_call : ℕ → ℕ → List ℕ
record_call word after = word ∷ nop ∷ after ∷ 0x91D02000 ∷ 0x91D02001 ∷ []

-- call 16; nop; unimp 12; ta 0; jmpl %o7 + 12, as a function returns a record; nop
abbrev pub returns_past : List ℕ
returns_past = 0x40000004 ∷ nop ∷ 12 ∷ 0x91D02000 ∷ 0x81C3E00C ∷ nop ∷ []

-- ba 24; a word in its delay slot; what stands at p + 8 = 12; ta 1 at 16, ta 0 at 20, nop at 24; what stands at n + 8 = 32; ta 2 at 36
abbrev pub slotted_record : ℕ → ℕ → ℕ → List ℕ
slotted_record word after far = 0x10800006 ∷ word ∷ nop ∷ after ∷ 0x91D02001 ∷ 0x91D02000 ∷ nop ∷ nop ∷ far ∷ 0x91D02002 ∷ []

-- call 24; nop; what stands at p + 8; a jmpl that holds ba; nop; ta 0
abbrev pub forbidden_past : ℕ → List ℕ
forbidden_past after = 0x40000006 ∷ nop ∷ after ∷ 0x81C3E008 ∷ 0x10800003 ∷ nop ∷ 0x91D02000 ∷ []

-- umul %g1, %g1, %g2; rd %y, %g1; ta 0
abbrev pub squares : List ℕ
squares = 0x84504001 ∷ 0x83400000 ∷ 0x91D02000 ∷ []

-- ba 12; stb %g1 at 1; illegal; subcc %g0, 1, %g1; ta 0
abbrev pub touches : List ℕ
touches = 0x10800003 ∷ 0xC2282001 ∷ 0 ∷ 0x82A02001 ∷ 0x91D02000 ∷ []

-- jmpl %g1 + 0 without link; a word that it holds; two words that nothing names
abbrev pub held : ℕ → List ℕ
held word = 0x81C06000 ∷ word ∷ nop ∷ nop ∷ []

-- how the trails close in which a word stands in a plain place, in a delay slot and held; the new core's where it is not illegal
unfoldable pub old_closes : ℕ → ℕ → List ℕ
old_closes w word = old_told (word ∷ []) (nested_at w) 9 ++ old_told (slotted word) (nested_at w) 9 ++ old_told (held word) (nested_at w) 9

unfoldable pub new_closes : ℕ → ℕ → List ℕ
new_closes w word = new_told 2 3 (word ∷ []) (nested_at w) 9 ++ new_told 4 6 (slotted word) (nested_at w) 9 ++ new_told 2 4 (held word) (nested_at w) 9

-- a table with two plain places of one address behind a slot place of it, a held one and one of no kind that there is; records that go by the held
-- address, end with 2 and end with 3
abbrev pub twice : List ℕ
twice = 8 ∷ 20 ∷ 1 ∷ 2 ∷ 8 ∷ 0 ∷ 2 ∷ 2 ∷ 8 ∷ 12 ∷ 9 ∷ 2 ∷ 8 ∷ 12 ∷ 0 ∷ 1 ∷ 8 ∷ 12 ∷ 0 ∷ 2 ∷ []

abbrev pub goes_or_ends : List ℕ
goes_or_ends = 6 ∷ 0 ∷ 0 ∷ 7 ∷ 2 ∷ 5 ∷ 7 ∷ 3 ∷ 6 ∷ []

abbrev row : ℕ → List ℕ → List ℕ → Row
row p got want = record { case = p; got = got; want = want }

unfoldable pub cases : List Row
cases =
    -- "P1 the listing"
    row 1 (listed 3 4 p1)
    (0 ∷ 3 ∷ 4 ∷ 0 ∷ 4 ∷ 0 ∷ 0 ∷ 4 ∷ 12 ∷ 1 ∷ 1 ∷ 12 ∷ 16 ∷ 0 ∷ 3 ∷ 5 ∷ 1 ∷ 0 ∷ 1 ∷ 2181062657 ∷ 0 ∷ 5 ∷ 3 ∷ 0 ∷ 1 ∷ 2446336000 ∷ 0 ∷ [])
    -- "addresses 0, 4, 16, 24 run, 20 does not", on both cores, and ta 0 ends the run
    ∷ row 2 (old_told p2 (begins 0 0 0) 9) (0 ∷ 0 ∷ 0 ∷ 1 ∷ 4 ∷ 0 ∷ 1 ∷ 16 ∷ 0 ∷ 1 ∷ 24 ∷ 1 ∷ 1 ∷ 0 ∷ [])
    ∷ row 2 (new_told 4 5 p2 (begins 0 0 0) 9) (0 ∷ 0 ∷ 0 ∷ 1 ∷ 4 ∷ 0 ∷ 1 ∷ 16 ∷ 0 ∷ 2 ∷ 24 ∷ 1 ∷ 1 ∷ 0 ∷ [])
    -- "4 places, 5 records"
    ∷ row 2 (answered p2 64 60) (0 ∷ 4 ∷ 5 ∷ [])
    -- "ba 8 at 0: place 1 is plain 4"
    ∷ row 3 (listed 3 4 p3)
    (0 ∷ 3 ∷ 4 ∷ 0 ∷ 4 ∷ 0 ∷ 0 ∷ 4 ∷ 8 ∷ 0 ∷ 1 ∷ 8 ∷ 12 ∷ 0 ∷ 3 ∷ 5 ∷ 1 ∷ 0 ∷ 1 ∷ 2181062657 ∷ 0 ∷ 5 ∷ 3 ∷ 0 ∷ 1 ∷ 2446336000 ∷ 0 ∷ [])
    -- "Z clear: 8 follows", two words further
    ∷ row 4 (old_told p4 (begins 0 0 0) 2) (0 ∷ 0 ∷ 0 ∷ 2 ∷ 8 ∷ 0 ∷ 0 ∷ 0 ∷ [])
    -- "the same, Z set: 4, then 16", where ta 0 ends the run
    ∷ row 5 (old_told p4 (begins 0 0 4) 9) (0 ∷ 0 ∷ 0 ∷ 1 ∷ 4 ∷ 0 ∷ 1 ∷ 16 ∷ 1 ∷ 1 ∷ 0 ∷ [])
    -- "ba,a to itself (0x30800000): one place, one record"
    ∷ row 6 (listed 1 1 (0x30800000 ∷ [])) (0 ∷ 1 ∷ 1 ∷ 0 ∷ 4 ∷ 0 ∷ 0 ∷ 5 ∷ 0 ∷ 0 ∷ [])
    -- "0x81C3E008 then ba: refusal 4, address 4"
    ∷ row 7 (answered p7 8192 12288) (4 ∷ 4 ∷ 0 ∷ [])
    -- "subcc 0 − 1: 4294967295, N and C only"
    ∷ row 8 (shown 1 (run (over p8) 1 (start 1 0 0))) (4294967295 ∷ 9 ∷ [])
    -- "addcc 2147483647 + 1: N and V only"
    ∷ row 9 (shown 1 (run (over p9) 1 (start 1 2147483647 0))) (2147483648 ∷ 10 ∷ [])
    -- "jmpl with rd and rs1 both register 1, value 18, constant 0: end 4, still 18"
    ∷ row 10 (ended (run (over p10) 1 (start 1 18 0)) ++ shown 1 (run (over p10) 1 (start 1 18 0))) (4 ∷ 18 ∷ 18 ∷ 0 ∷ [])
    -- "the listing's image with two places: 5, address 12; with three records: 6, needed 4"
    ∷ row 11 (answered p1 47 12288) (5 ∷ 12 ∷ 0 ∷ [])
    ∷ row 11 (answered p1 8192 47) (6 ∷ 4 ∷ 0 ∷ [])
    -- "Length 16,384 passes 1, 16,388 doesn't; 64 entries pass, 65 don't."
    ∷ row 11 (answer_numbers (translation (replicate 16384 0) 0 (bytes_of (0 ∷ [])) 16 12).answer) (0 ∷ 1 ∷ 1 ∷ [])
    ∷ row 11 (answer_numbers (translation (replicate 16388 0) 0 (bytes_of (0 ∷ [])) 16 12).answer) (1 ∷ 16388 ∷ 0 ∷ [])
    ∷ row 11 (answer_numbers (given (0 ∷ []) (replicate 64 0) 16 12).answer) (0 ∷ 1 ∷ 1 ∷ [])
    ∷ row 11 (answer_numbers (given (0 ∷ []) (replicate 65 0) 16 12).answer) (3 ∷ 0 ∷ 0 ∷ [])
    -- "add, addx, sub, subx, and, andn, or, orn, xor, xnor, each plain and setting flags; sll, srl, sra", by V8's op3, with N, V and C set: add, and, or, xor,
    -- sub, andn, orn, xnor, addx, subx; shifts by 7; the flag forms where sums and differences are 0 or one off
    ∷ row 0 (each (λ o. worked 11 0xC0000F0F 0x4F00FF07 (of_three o)) (0 ∷ 1 ∷ 2 ∷ 3 ∷ 4 ∷ 5 ∷ 6 ∷ 7 ∷ 8 ∷ 12 ∷ []))
    (0x0F010E16 ∷ 11 ∷ 0x40000F07 ∷ 11 ∷ 0xCF00FF0F ∷ 11 ∷ 0x8F00F008 ∷ 11 ∷ 0x70FF1008 ∷ 11 ∷ 0x80000008 ∷ 11 ∷ 0xF0FF0FFF ∷ 11 ∷ 0x70FF0FF7 ∷ 11 ∷ 0x0F010E17 ∷ 11 ∷ 0x70FF1007 ∷ 11
    ∷ [])
    ∷ row 0 (each (λ o. worked 11 0xC0000F0F 0x4F00FF07 (of_three o)) (16 ∷ 17 ∷ 18 ∷ 19 ∷ 20 ∷ 21 ∷ 22 ∷ 23 ∷ 24 ∷ 28 ∷ []))
    (0x0F010E16 ∷ 1 ∷ 0x40000F07 ∷ 0 ∷ 0xCF00FF0F ∷ 8 ∷ 0x8F00F008 ∷ 8 ∷ 0x70FF1008 ∷ 2 ∷ 0x80000008 ∷ 8 ∷ 0xF0FF0FFF ∷ 8 ∷ 0x70FF0FF7 ∷ 0 ∷ 0x0F010E17 ∷ 1 ∷ 0x70FF1007 ∷ 2
    ∷ [])
    ∷ row 0 (each (λ o. worked 11 0x80000000 0x80000000 (of_three o)) (16 ∷ 20 ∷ 24 ∷ 28 ∷ [])) (0 ∷ 7 ∷ 0 ∷ 4 ∷ 1 ∷ 3 ∷ 0xFFFFFFFF ∷ 9 ∷ [])
    ∷ row 0 (each (λ o. worked 11 0xC0000F0F 0x4F00FF07 (of_three o)) (0x25 ∷ 0x26 ∷ 0x27 ∷ [])) (0x78780 ∷ 11 ∷ 0x0180001E ∷ 11 ∷ 0xFF80001E ∷ 11 ∷ [])
    ∷ row 0 (each (λ o. worked 11 0x7FFFFFFF 63 (of_three o)) (0x25 ∷ 0x26 ∷ 0x27 ∷ [])) (0x80000000 ∷ 11 ∷ 0 ∷ 11 ∷ 0 ∷ 11 ∷ [])
    -- "sethi"; "1 Ticc taken, with (rs1 + operand) modulo 128", and one that is not
    ∷ row 0 (worked 11 0 0 0x073FFFFF) (0xFFFFFC00 ∷ 11 ∷ [])
    ∷ row 0 (ended (run (over (0x91D06005 ∷ [])) 1 (start 1 1000 0)) ++ ended (run (over (0x83D06005 ∷ [])) 1 (start 1 1000 0))) (1 ∷ 109 ∷ 0 ∷ 0 ∷ [])
    -- "ld, ldub, ldsb, lduh, ldsh, st, stb, sth", big-endian: the first bytes read and written, by V8's op3
    ∷ row 0 (each (λ o. moved 4096 (of_memory o)) (0 ∷ 1 ∷ 9 ∷ 2 ∷ 10 ∷ []))
    (0x8192A3B4 ∷ 0x81 ∷ 0x92 ∷ 0xA3 ∷ 0xB4 ∷ 5 ∷ 6 ∷ 7 ∷ 0 ∷ 0 ∷ 0x81 ∷ 0x81 ∷ 0x92 ∷ 0xA3 ∷ 0xB4 ∷ 5 ∷ 6 ∷ 7 ∷ 0 ∷ 0
    ∷ 0xFFFFFF81 ∷ 0x81 ∷ 0x92 ∷ 0xA3 ∷ 0xB4 ∷ 5 ∷ 6 ∷ 7 ∷ 0 ∷ 0 ∷ 0x8192 ∷ 0x81 ∷ 0x92 ∷ 0xA3 ∷ 0xB4 ∷ 5 ∷ 6 ∷ 7 ∷ 0 ∷ 0
    ∷ 0xFFFF8192 ∷ 0x81 ∷ 0x92 ∷ 0xA3 ∷ 0xB4 ∷ 5 ∷ 6 ∷ 7 ∷ 0 ∷ 0 ∷ [])
    ∷ row 0 (each (λ o. moved 4096 (of_memory o)) (4 ∷ 5 ∷ 6 ∷ []))
    (0x1C2D3E4F ∷ 0x1C ∷ 0x2D ∷ 0x3E ∷ 0x4F ∷ 5 ∷ 6 ∷ 7 ∷ 0 ∷ 0 ∷ 0x1C2D3E4F ∷ 0x4F ∷ 0x92 ∷ 0xA3 ∷ 0xB4 ∷ 5 ∷ 6 ∷ 7 ∷ 0 ∷ 0
    ∷ 0x1C2D3E4F ∷ 0x3E ∷ 0x4F ∷ 0xA3 ∷ 0xB4 ∷ 5 ∷ 6 ∷ 7 ∷ 0 ∷ 0 ∷ [])
    -- "fits if (address − data base) modulo 2^32, plus w, is at most the area's length": the last byte and half word of seven bytes, and the first that
    -- do not fit, at 4,100 and 4,103 and below the data base; misaligned by 1 and by 2
    ∷ row 0 (moved 4102 (of_memory 5) ++ moved 4100 (of_memory 6))
    (0x1C2D3E4F ∷ 0x81 ∷ 0x92 ∷ 0xA3 ∷ 0xB4 ∷ 5 ∷ 6 ∷ 0x4F ∷ 0 ∷ 0 ∷ 0x1C2D3E4F ∷ 0x81 ∷ 0x92 ∷ 0xA3 ∷ 0xB4 ∷ 0x3E ∷ 0x4F ∷ 7 ∷ 0 ∷ 0 ∷ [])
    ∷ row 0 (moved 4100 (of_memory 4) ++ moved 4103 (of_memory 5) ++ moved 4095 (of_memory 1))
    (0x1C2D3E4F ∷ 0x81 ∷ 0x92 ∷ 0xA3 ∷ 0xB4 ∷ 5 ∷ 6 ∷ 7 ∷ 5 ∷ 4100 ∷ 0x1C2D3E4F ∷ 0x81 ∷ 0x92 ∷ 0xA3 ∷ 0xB4 ∷ 5 ∷ 6 ∷ 7 ∷ 5 ∷ 4103
    ∷ 0x1C2D3E4F ∷ 0x81 ∷ 0x92 ∷ 0xA3 ∷ 0xB4 ∷ 5 ∷ 6 ∷ 7 ∷ 5 ∷ 4095 ∷ [])
    ∷ row 0 (moved 4097 (of_memory 2) ++ moved 4098 (of_memory 0))
    (0x1C2D3E4F ∷ 0x81 ∷ 0x92 ∷ 0xA3 ∷ 0xB4 ∷ 5 ∷ 6 ∷ 7 ∷ 4 ∷ 4097 ∷ 0x1C2D3E4F ∷ 0x81 ∷ 0x92 ∷ 0xA3 ∷ 0xB4 ∷ 5 ∷ 6 ∷ 7 ∷ 4 ∷ 4098 ∷ [])
    -- further readings that tempt and are wrong: linking p + 8; jmpl's address taken after rd is written; alignment tested after fit
    ∷ row 0 (shown 15 (run (over calls_on) 2 (start 1 0 0))) (4 ∷ 0 ∷ [])
    ∷ row 0 (old_told jumps_on (begins 0 16 0) 3) (0 ∷ 0 ∷ 16 ∷ 1 ∷ 4 ∷ 0 ∷ 1 ∷ 16 ∷ 0 ∷ 0 ∷ 0 ∷ [])
    ∷ row 0 (ended (run (over loads) 1 (start 1 2 0))) (4 ∷ 2 ∷ [])
    -- "call to t: (n, t), then plain p + 8"; "Kind 2, held: .. (shown as 0)"; "Call: 2 (p), 5. Jmpl: 3, 5."; "Held: 1, 6"
    ∷ row 0 (listed 5 9 returns)
    (0 ∷ 5 ∷ 9
    ∷ 0 ∷ 4 ∷ 0 ∷ 0 ∷ 4 ∷ 12 ∷ 1 ∷ 2 ∷ 8 ∷ 12 ∷ 0 ∷ 4 ∷ 12 ∷ 16 ∷ 0 ∷ 5 ∷ 16 ∷ 0 ∷ 2 ∷ 7
    ∷ 2 ∷ 0 ∷ 0 ∷ 5 ∷ 2 ∷ 0 ∷ 1 ∷ 0x01000000 ∷ 0 ∷ 5 ∷ 5 ∷ 0 ∷ 1 ∷ 0x91D02000 ∷ 0 ∷ 3 ∷ 0x81C3E008 ∷ 12 ∷ 5 ∷ 7 ∷ 0 ∷ 1 ∷ 0x01000000 ∷ 0 ∷ 6 ∷ 0 ∷ 0
    ∷ [])
    -- "jmpl: held n, then plain p + 8 if rd is not 0"; "Outside ..: one 7 (end 2 ..)"
    ∷ row 0 (listed 3 5 (0x83C06000 ∷ nop ∷ []))
    (0 ∷ 3 ∷ 5
    ∷ 0 ∷ 4 ∷ 0 ∷ 0 ∷ 4 ∷ 0 ∷ 2 ∷ 2 ∷ 8 ∷ 12 ∷ 0 ∷ 4
    ∷ 3 ∷ 0x83C06000 ∷ 0 ∷ 5 ∷ 2 ∷ 0 ∷ 1 ∷ 0x01000000 ∷ 0 ∷ 6 ∷ 0 ∷ 0 ∷ 7 ∷ 2 ∷ 8
    ∷ [])
    -- both in a delay slot, from (4, 16): plain p + 8 is 12, and not n + 4
    ∷ row 0 (listed 5 7 (slotted 0x40000005))
    (0 ∷ 5 ∷ 7
    ∷ 0 ∷ 4 ∷ 0 ∷ 0 ∷ 4 ∷ 16 ∷ 1 ∷ 1 ∷ 16 ∷ 24 ∷ 1 ∷ 3 ∷ 12 ∷ 16 ∷ 0 ∷ 5 ∷ 24 ∷ 28 ∷ 0 ∷ 6
    ∷ 5 ∷ 1 ∷ 0 ∷ 2 ∷ 4 ∷ 0 ∷ 5 ∷ 3 ∷ 0 ∷ 1 ∷ 0x01000000 ∷ 0 ∷ 5 ∷ 6 ∷ 0 ∷ 1 ∷ 0x91D02001 ∷ 0 ∷ 1 ∷ 0x91D02000 ∷ 0
    ∷ [])
    ∷ row 0 (listed 4 6 (slotted 0x83C06000))
    (0 ∷ 4 ∷ 6
    ∷ 0 ∷ 4 ∷ 0 ∷ 0 ∷ 4 ∷ 16 ∷ 1 ∷ 1 ∷ 16 ∷ 0 ∷ 2 ∷ 3 ∷ 12 ∷ 16 ∷ 0 ∷ 5
    ∷ 5 ∷ 1 ∷ 0 ∷ 3 ∷ 0x83C06000 ∷ 4 ∷ 5 ∷ 3 ∷ 0 ∷ 1 ∷ 0x01000000 ∷ 0 ∷ 6 ∷ 0 ∷ 0 ∷ 1 ∷ 0x91D02001 ∷ 0
    ∷ [])
    -- "Bicc 0 with annul: plain n + 4."; an illegal word: "one 7 (.. 3, address p)"
    ∷ row 0 (listed 2 2 (0x20800004 ∷ nop ∷ 0 ∷ [])) (0 ∷ 2 ∷ 2 ∷ 0 ∷ 4 ∷ 0 ∷ 0 ∷ 8 ∷ 12 ∷ 0 ∷ 1 ∷ 5 ∷ 1 ∷ 0 ∷ 7 ∷ 3 ∷ 8 ∷ [])
    -- a held place: "Outside or illegal: one 7 .. Ticc 8: one 1. Held: 1, 6. .. The first that fits applies."
    ∷ row 0 (listed 2 3 (0x81C3E008 ∷ [])) (0 ∷ 2 ∷ 3 ∷ 0 ∷ 4 ∷ 0 ∷ 0 ∷ 4 ∷ 0 ∷ 2 ∷ 2 ∷ 3 ∷ 0x81C3E008 ∷ 0 ∷ 5 ∷ 2 ∷ 0 ∷ 7 ∷ 2 ∷ 4 ∷ [])
    ∷ row 0 (listed 2 3 (0x81C3E008 ∷ 0 ∷ [])) (0 ∷ 2 ∷ 3 ∷ 0 ∷ 4 ∷ 0 ∷ 0 ∷ 4 ∷ 0 ∷ 2 ∷ 2 ∷ 3 ∷ 0x81C3E008 ∷ 0 ∷ 5 ∷ 2 ∷ 0 ∷ 7 ∷ 3 ∷ 4 ∷ [])
    ∷ row 0 (listed 2 3 (0x81C3E008 ∷ 0x91D02000 ∷ []))
    (0 ∷ 2 ∷ 3 ∷ 0 ∷ 4 ∷ 0 ∷ 0 ∷ 4 ∷ 0 ∷ 2 ∷ 2 ∷ 3 ∷ 0x81C3E008 ∷ 0 ∷ 5 ∷ 2 ∷ 0 ∷ 1 ∷ 0x91D02000 ∷ 0 ∷ [])
    -- "7 a record past the last, of unknown kind, with an unfit word (kind 1: illegal, call, jmpl or any Bicc but 0 without annul; kind 3:
    -- anything but jmpl), a condition above 15 or a kind 7 whose first is not 2 or 3, with the record number"
    ∷ row 0 (step_at 1 (1 ∷ nop ∷ 0 ∷ [])) (7 ∷ 1 ∷ [])
    ∷ row 0 (step_at 0 (8 ∷ 0 ∷ 0 ∷ [])) (7 ∷ 0 ∷ [])
    ∷ row 0 (step_at 0 (1 ∷ 0 ∷ 0 ∷ [])) (7 ∷ 0 ∷ [])
    ∷ row 0 (step_at 0 (1 ∷ 0x40000003 ∷ 0 ∷ [])) (7 ∷ 0 ∷ [])
    ∷ row 0 (step_at 0 (1 ∷ 0x81C3E008 ∷ 0 ∷ [])) (7 ∷ 0 ∷ [])
    ∷ row 0 (step_at 0 (1 ∷ 0x20800004 ∷ 0 ∷ [])) (7 ∷ 0 ∷ [])
    ∷ row 0 (step_at 0 (1 ∷ 0x00800004 ∷ 0 ∷ [])) (0 ∷ 0 ∷ [])
    ∷ row 0 (step_at 0 (3 ∷ nop ∷ 0 ∷ [])) (7 ∷ 0 ∷ [])
    ∷ row 0 (step_at 0 (4 ∷ 16 ∷ 0 ∷ [])) (7 ∷ 0 ∷ [])
    -- "exactly the given count was done .. and no end met": the trail of a run of one word closes with 0
    ∷ row 0 (told (trail (old_over (bytes_of p1) 0 0) 1 9 0 (old_begin (begins 0 7 0)))) (0 ∷ 0 ∷ 7 ∷ 0 ∷ 0 ∷ [])
    -- the listing's image, on both cores
    ∷ row 0 (old_told p1 (begins 0 7 0) 9) (0 ∷ 0 ∷ 7 ∷ 1 ∷ 4 ∷ 7 ∷ 1 ∷ 12 ∷ 8 ∷ 1 ∷ 0 ∷ [])
    ∷ row 0 (new_told 3 4 p1 (begins 0 7 0) 9) (0 ∷ 0 ∷ 7 ∷ 1 ∷ 4 ∷ 7 ∷ 2 ∷ 12 ∷ 8 ∷ 1 ∷ 0 ∷ [])
    -- the one exception: the new core goes by the held address 12, which no place has; "and the cut leaves room for the entry at that address"
    ∷ row 0 (new_told 2 4 strays (begins 0 12 0) 9) (0 ∷ 0 ∷ 12 ∷ 2 ∷ 4 ∷ 12 ∷ 2 ∷ 12 ∷ 13 ∷ 6 ∷ 12 ∷ [])
    ∷ row 0 (new_told 2 4 strays (begins 0 12 0) 2) (0 ∷ 0 ∷ 12 ∷ 2 ∷ 4 ∷ 12 ∷ 0 ∷ 0 ∷ [])
    ∷ row 0 (old_told strays (begins 0 12 0) 3) (0 ∷ 0 ∷ 12 ∷ 1 ∷ 4 ∷ 12 ∷ 1 ∷ 12 ∷ 13 ∷ 0 ∷ 0 ∷ [])
    -- begun at an address without a plain place, "as kind 6 would": an entry there, and 6 inside the image, 2 outside
    ∷ row 0 (new_told 2 4 strays (begins 8 5 0) 9) (0 ∷ 8 ∷ 5 ∷ 6 ∷ 8 ∷ [])
    ∷ row 0 (new_told 2 4 strays (begins 16 5 0) 9) (0 ∷ 16 ∷ 5 ∷ 2 ∷ 16 ∷ [])
    -- the bytes that such a begin leaves: all registers, flags, Y and windows as they were, record 0, held address 0, end 6 and the address; the nesting
    -- as it counts, and the current window's ins, locals and outs among the windows
    ∷ row 0 (new_begins [] 0 16 8 (bytes_of (up_to (λ i. i + 5) 167))).state (bytes_of (0 ∷ up_to (λ i. i + 6) 31 ++ (5 ∷ 0 ∷ 0 ∷ 6 ∷ 8 ∷ 42 ∷ 6 ∷ up_to (λ i. i + 44) 96 ++ up_to (λ i. i + 29) 8 ++ up_to (λ i. i + 21) 8 ++ up_to (λ i. i + 13) 8 ++ up_to (λ i. i + 164) 8)))
    -- and a begin of the old core
    ∷ row 0 (old_begins 8 (bytes_of (up_to (λ i. i + 5) 168))) (bytes_of (0 ∷ up_to (λ i. i + 6) 31 ++ (5 ∷ 8 ∷ 12 ∷ 0 ∷ 0 ∷ 0 ∷ 43 ∷ 6 ∷ up_to (λ i. i + 45) 96 ++ up_to (λ i. i + 29) 8 ++ up_to (λ i. i + 21) 8 ++ up_to (λ i. i + 13) 8 ++ up_to (λ i. i + 165) 8)))
    -- the numbers of an end in a state that no core may have written: any but 1 to 9 is still going
    ∷ row 0 (end_of (ending_from 0 7) ++ end_of (ending_from 1 7) ++ end_of (ending_from 9 7) ++ end_of (ending_from 10 7)) (0 ∷ 0 ∷ 1 ∷ 7 ∷ 9 ∷ 7 ∷ 0 ∷ 0 ∷ [])
    -- and how many bytes a state has, of either core
    ∷ row 0 (length (old_begins 8 []) ∷ length (new_begins [] 0 16 8 []).state ∷ old_size ∷ new_size ∷ []) (672 ∷ 668 ∷ 672 ∷ 668 ∷ [])
    -- each refusal, with both buffers: "Every refusal fills both buffers with 0"
    ∷ row 0 (bytes_back (translation [] 0 (bytes_of (0 ∷ [])) 3 5)) (1 ∷ 0 ∷ 0 ∷ replicate 8 0)
    ∷ row 0 (bytes_back (translation (1 ∷ 2 ∷ []) 0 (bytes_of (0 ∷ [])) 3 5)) (1 ∷ 2 ∷ 0 ∷ replicate 8 0)
    ∷ row 0 (bytes_back (translation (bytes_of p1) 2 (bytes_of (0 ∷ [])) 48 48)) (2 ∷ 2 ∷ 0 ∷ replicate 96 0)
    ∷ row 0 (bytes_back (given p1 [] 48 48)) (3 ∷ 0 ∷ 0 ∷ replicate 96 0)
    ∷ row 0 (bytes_back (given p1 (0 ∷ 16 ∷ []) 48 48)) (3 ∷ 2 ∷ 0 ∷ replicate 96 0)
    ∷ row 0 (bytes_back (given p7 (0 ∷ []) 48 48)) (4 ∷ 4 ∷ 0 ∷ replicate 96 0)
    ∷ row 0 (bytes_back (given p1 (0 ∷ []) 47 48)) (5 ∷ 12 ∷ 0 ∷ replicate 95 0)
    ∷ row 0 (bytes_back (given p1 (0 ∷ []) 48 47)) (6 ∷ 4 ∷ 0 ∷ replicate 95 0)
    -- 02, N8: "that of the first entry, in list order, that is misaligned or outside the image; a bad count still gives 0"
    ∷ row 0 (answer_numbers (given p1 (0 ∷ 2 ∷ 16 ∷ []) 48 48).answer) (3 ∷ 2 ∷ 0 ∷ [])
    ∷ row 0 (answer_numbers (given p1 (0 ∷ 16 ∷ 2 ∷ []) 48 48).answer) (3 ∷ 2 ∷ 0 ∷ [])
    ∷ row 0 (answer_numbers (given p1 (replicate 63 0 ++ (6 ∷ [])) 48 48).answer) (3 ∷ 64 ∷ 0 ∷ [])
    ∷ row 0 (answer_numbers (given p1 (replicate 65 2) 48 48).answer) (3 ∷ 0 ∷ 0 ∷ [])
    -- 02, N6: "for every Bicc but 0 and 8 the plain place is named before (n, t)": be 12, be,a 12, and to n + 4
    ∷ row 0 (listed 5 8 (forks 0x02800003))
    (0 ∷ 5 ∷ 8
    ∷ 0 ∷ 4 ∷ 0 ∷ 0 ∷ 4 ∷ 8 ∷ 0 ∷ 2 ∷ 4 ∷ 12 ∷ 1 ∷ 4 ∷ 8 ∷ 12 ∷ 0 ∷ 6 ∷ 12 ∷ 16 ∷ 0 ∷ 7
    ∷ 4 ∷ 1 ∷ 4 ∷ 5 ∷ 2 ∷ 0 ∷ 1 ∷ 0x82006001 ∷ 0 ∷ 5 ∷ 6 ∷ 0 ∷ 1 ∷ 0x82006001 ∷ 0 ∷ 5 ∷ 7 ∷ 0 ∷ 1 ∷ 0x91D02001 ∷ 0 ∷ 1 ∷ 0x91D02000 ∷ 0
    ∷ [])
    ∷ row 0 (listed 4 6 (forks 0x22800003))
    (0 ∷ 4 ∷ 6
    ∷ 0 ∷ 4 ∷ 0 ∷ 0 ∷ 8 ∷ 12 ∷ 0 ∷ 2 ∷ 4 ∷ 12 ∷ 1 ∷ 3 ∷ 12 ∷ 16 ∷ 0 ∷ 5
    ∷ 4 ∷ 1 ∷ 3 ∷ 5 ∷ 2 ∷ 0 ∷ 1 ∷ 0x91D02001 ∷ 0 ∷ 1 ∷ 0x82006001 ∷ 0 ∷ 5 ∷ 5 ∷ 0 ∷ 1 ∷ 0x91D02000 ∷ 0
    ∷ [])
    ∷ row 0 (listed 3 5 (forks 0x02800002))
    (0 ∷ 3 ∷ 5
    ∷ 0 ∷ 4 ∷ 0 ∷ 0 ∷ 4 ∷ 8 ∷ 0 ∷ 2 ∷ 8 ∷ 12 ∷ 0 ∷ 4
    ∷ 4 ∷ 1 ∷ 2 ∷ 5 ∷ 2 ∷ 0 ∷ 1 ∷ 0x82006001 ∷ 0 ∷ 5 ∷ 4 ∷ 0 ∷ 1 ∷ 0x91D02001 ∷ 0
    ∷ [])
    ∷ row 0 (listed 3 5 (forks 0x22800002))
    (0 ∷ 3 ∷ 5
    ∷ 0 ∷ 4 ∷ 0 ∷ 0 ∷ 8 ∷ 12 ∷ 0 ∷ 2 ∷ 4 ∷ 8 ∷ 0 ∷ 3
    ∷ 4 ∷ 1 ∷ 3 ∷ 5 ∷ 2 ∷ 0 ∷ 1 ∷ 0x91D02001 ∷ 0 ∷ 1 ∷ 0x82006001 ∷ 0 ∷ 5 ∷ 2 ∷ 0
    ∷ [])
    -- and so of refusals 4 and 5 which comes first, and where
    ∷ row 0 (answered two_forbidden 8192 12288) (4 ∷ 12 ∷ 0 ∷ [])
    ∷ row 0 (answered (forks 0x02800003) 48 12288) (5 ∷ 8 ∷ 0 ∷ [])
    ∷ row 0 (answered (forks 0x22800003) 16 12288) (5 ∷ 8 ∷ 0 ∷ [])
    -- 02, N1: "Where a call, or a jmpl with rd not 0, stands at p .. the place at p names plain p + 12 right after plain p + 8"
    ∷ row 0 (listed 5 7 (record_call 0x40000004 12))
    (0 ∷ 5 ∷ 7
    ∷ 0 ∷ 4 ∷ 0 ∷ 0 ∷ 4 ∷ 16 ∷ 1 ∷ 2 ∷ 8 ∷ 12 ∷ 0 ∷ 4 ∷ 12 ∷ 16 ∷ 0 ∷ 5 ∷ 16 ∷ 20 ∷ 0 ∷ 6
    ∷ 2 ∷ 0 ∷ 0 ∷ 5 ∷ 2 ∷ 0 ∷ 1 ∷ 0x01000000 ∷ 0 ∷ 5 ∷ 6 ∷ 0 ∷ 7 ∷ 3 ∷ 8 ∷ 1 ∷ 0x91D02000 ∷ 0 ∷ 1 ∷ 0x91D02001 ∷ 0
    ∷ [])
    ∷ row 0 (listed 4 6 (record_call 0x83C06000 12))
    (0 ∷ 4 ∷ 6
    ∷ 0 ∷ 4 ∷ 0 ∷ 0 ∷ 4 ∷ 0 ∷ 2 ∷ 2 ∷ 8 ∷ 12 ∷ 0 ∷ 4 ∷ 12 ∷ 16 ∷ 0 ∷ 5
    ∷ 3 ∷ 0x83C06000 ∷ 0 ∷ 5 ∷ 2 ∷ 0 ∷ 1 ∷ 0x01000000 ∷ 0 ∷ 6 ∷ 0 ∷ 0 ∷ 7 ∷ 3 ∷ 8 ∷ 1 ∷ 0x91D02000 ∷ 0
    ∷ [])
    ∷ row 0 (answered (record_call 0x81C06000 12) 8192 12288) (0 ∷ 2 ∷ 4 ∷ [])
    -- "with bits 31, 30 and 24 to 22 all 0": with room for three places the fourth is refused, at 12; with one of the five bits set at 16
    ∷ row 0 (answered (record_call 0x40000004 0x3E3FFFFF) 48 12288) (5 ∷ 12 ∷ 0 ∷ [])
    ∷ row 0 (answered (record_call 0x40000004 0x00400000) 48 12288) (5 ∷ 16 ∷ 0 ∷ [])
    ∷ row 0 (answered (record_call 0x40000004 0x00800000) 48 12288) (5 ∷ 16 ∷ 0 ∷ [])
    ∷ row 0 (answered (record_call 0x40000004 0x01000000) 48 12288) (5 ∷ 16 ∷ 0 ∷ [])
    ∷ row 0 (answered (record_call 0x40000004 0x40000000) 48 12288) (5 ∷ 16 ∷ 0 ∷ [])
    ∷ row 0 (answered (record_call 0x40000004 0x80000000) 48 12288) (5 ∷ 16 ∷ 0 ∷ [])
    -- "the place at p", also in a delay slot, from (4, 24): p + 8 is 12, p + 12 is 16; an unimp at n + 8 = 32 says nothing
    ∷ row 0 (listed 6 8 (slotted_record 0x40000004 12 nop))
    (0 ∷ 6 ∷ 8
    ∷ 0 ∷ 4 ∷ 0 ∷ 0 ∷ 4 ∷ 24 ∷ 1 ∷ 1 ∷ 24 ∷ 20 ∷ 1 ∷ 3 ∷ 12 ∷ 16 ∷ 0 ∷ 5 ∷ 16 ∷ 20 ∷ 0 ∷ 6 ∷ 20 ∷ 24 ∷ 0 ∷ 7
    ∷ 5 ∷ 1 ∷ 0 ∷ 2 ∷ 4 ∷ 0 ∷ 5 ∷ 3 ∷ 0 ∷ 1 ∷ 0x01000000 ∷ 0 ∷ 5 ∷ 7 ∷ 0 ∷ 7 ∷ 3 ∷ 12 ∷ 1 ∷ 0x91D02001 ∷ 0 ∷ 1 ∷ 0x91D02000 ∷ 0
    ∷ [])
    ∷ row 0 (listed 5 7 (slotted_record 0x83C06000 12 nop))
    (0 ∷ 5 ∷ 7
    ∷ 0 ∷ 4 ∷ 0 ∷ 0 ∷ 4 ∷ 24 ∷ 1 ∷ 1 ∷ 24 ∷ 0 ∷ 2 ∷ 3 ∷ 12 ∷ 16 ∷ 0 ∷ 5 ∷ 16 ∷ 20 ∷ 0 ∷ 6
    ∷ 5 ∷ 1 ∷ 0 ∷ 3 ∷ 0x83C06000 ∷ 4 ∷ 5 ∷ 3 ∷ 0 ∷ 1 ∷ 0x01000000 ∷ 0 ∷ 6 ∷ 0 ∷ 0 ∷ 7 ∷ 3 ∷ 12 ∷ 1 ∷ 0x91D02001 ∷ 0
    ∷ [])
    ∷ row 0 (answered (slotted_record 0x40000004 0x91D02003 12) 8192 12288) (0 ∷ 5 ∷ 7 ∷ [])
    -- sums modulo 2^32: p + 8 at 0 and p + 12 at 4; p + 8 at 2^32 - 4 and p + 12 at 0
    ∷ row 0 (listed_at 0xFFFFFFF8 4 6 (record_call 0x83C06000 12))
    (0 ∷ 4 ∷ 6
    ∷ 0xFFFFFFF8 ∷ 0xFFFFFFFC ∷ 0 ∷ 0 ∷ 0xFFFFFFFC ∷ 0 ∷ 2 ∷ 2 ∷ 0 ∷ 4 ∷ 0 ∷ 4 ∷ 4 ∷ 8 ∷ 0 ∷ 5
    ∷ 3 ∷ 0x83C06000 ∷ 0xFFFFFFF8 ∷ 5 ∷ 2 ∷ 0 ∷ 1 ∷ 0x01000000 ∷ 0 ∷ 6 ∷ 0 ∷ 0 ∷ 7 ∷ 3 ∷ 0 ∷ 1 ∷ 0x91D02000 ∷ 0
    ∷ [])
    ∷ row 0 (listed_at 0xFFFFFFF4 5 7 (record_call 0x40000004 12))
    (0 ∷ 5 ∷ 7
    ∷ 0xFFFFFFF4 ∷ 0xFFFFFFF8 ∷ 0 ∷ 0 ∷ 0xFFFFFFF8 ∷ 4 ∷ 1 ∷ 2 ∷ 0xFFFFFFFC ∷ 0 ∷ 0 ∷ 4 ∷ 0 ∷ 4 ∷ 0 ∷ 5 ∷ 4 ∷ 8 ∷ 0 ∷ 6
    ∷ 2 ∷ 0xFFFFFFF4 ∷ 0 ∷ 5 ∷ 2 ∷ 0 ∷ 1 ∷ 0x01000000 ∷ 0 ∷ 5 ∷ 6 ∷ 0 ∷ 7 ∷ 3 ∷ 0xFFFFFFFC ∷ 1 ∷ 0x91D02000 ∷ 0 ∷ 1 ∷ 0x91D02001 ∷ 0
    ∷ [])
    -- "the word at p + 8 is in the image": where it is the last one, p + 12 lies outside and has its place; where it is not, there is none
    ∷ row 0 (listed 4 6 (0x83C06000 ∷ nop ∷ 12 ∷ []))
    (0 ∷ 4 ∷ 6
    ∷ 0 ∷ 4 ∷ 0 ∷ 0 ∷ 4 ∷ 0 ∷ 2 ∷ 2 ∷ 8 ∷ 12 ∷ 0 ∷ 4 ∷ 12 ∷ 16 ∷ 0 ∷ 5
    ∷ 3 ∷ 0x83C06000 ∷ 0 ∷ 5 ∷ 2 ∷ 0 ∷ 1 ∷ 0x01000000 ∷ 0 ∷ 6 ∷ 0 ∷ 0 ∷ 7 ∷ 3 ∷ 8 ∷ 7 ∷ 2 ∷ 12
    ∷ [])
    ∷ row 0 (answered (0x40000004 ∷ nop ∷ []) 8192 12288) (0 ∷ 4 ∷ 6 ∷ [])
    -- "the callee returns past it", on both cores, to the trap at 12
    ∷ row 0 (old_told returns_past (begins 0 0 0) 9) (0 ∷ 0 ∷ 0 ∷ 1 ∷ 4 ∷ 0 ∷ 1 ∷ 16 ∷ 0 ∷ 1 ∷ 20 ∷ 0 ∷ 1 ∷ 12 ∷ 0 ∷ 1 ∷ 0 ∷ [])
    ∷ row 0 (new_told 6 10 returns_past (begins 0 0 0) 9) (0 ∷ 0 ∷ 0 ∷ 2 ∷ 4 ∷ 0 ∷ 2 ∷ 16 ∷ 0 ∷ 2 ∷ 20 ∷ 0 ∷ 2 ∷ 12 ∷ 0 ∷ 1 ∷ 0 ∷ [])
    -- a refusal 4 that only p + 12 leads to
    ∷ row 0 (answered (forbidden_past 12) 8192 12288) (4 ∷ 16 ∷ 0 ∷ [])
    ∷ row 0 (answered (forbidden_past 0x00400000) 8192 12288) (0 ∷ 4 ∷ 6 ∷ [])
    -- 02, N2: "a word with an unused bit set as illegal: bits 12 to 5 when the second operand is a register", where a constant has them
    ∷ row 0 (ended (run (over (0x82004002 ∷ [])) 1 (start 1 0 0))) (0 ∷ 0 ∷ [])
    ∷ row 0 (ended (run (over (0x82004022 ∷ [])) 1 (start 1 0 0))) (3 ∷ 0 ∷ [])
    ∷ row 0 (ended (run (over (0x82005002 ∷ [])) 1 (start 1 0 0))) (3 ∷ 0 ∷ [])
    ∷ row 0 (ended (run (over (0x82007FE0 ∷ [])) 1 (start 1 0 0))) (0 ∷ 0 ∷ [])
    ∷ row 0 (ended (run (over (0xC4004022 ∷ [])) 1 (start 1 0 0))) (3 ∷ 0 ∷ [])
    -- "or a shift's constant; bits 12 to 7 of a Ticc with a constant; bit 29 of a Ticc"
    ∷ row 0 (ended (run (over (0x8328601F ∷ [])) 1 (start 1 0 0))) (0 ∷ 0 ∷ [])
    ∷ row 0 (ended (run (over (0x83286021 ∷ [])) 1 (start 1 0 0))) (3 ∷ 0 ∷ [])
    ∷ row 0 (ended (run (over (0x83307001 ∷ [])) 1 (start 1 0 0))) (3 ∷ 0 ∷ [])
    ∷ row 0 (ended (run (over (0x83386021 ∷ [])) 1 (start 1 0 0))) (3 ∷ 0 ∷ [])
    ∷ row 0 (ended (run (over (0x81D0207F ∷ [])) 1 (start 1 0 0))) (0 ∷ 0 ∷ [])
    ∷ row 0 (ended (run (over (0x81D02080 ∷ [])) 1 (start 1 0 0))) (3 ∷ 0 ∷ [])
    ∷ row 0 (ended (run (over (0x81D03000 ∷ [])) 1 (start 1 0 0))) (3 ∷ 0 ∷ [])
    ∷ row 0 (ended (run (over (0x81D00020 ∷ [])) 1 (start 1 0 0))) (3 ∷ 0 ∷ [])
    ∷ row 0 (ended (run (over (0xA1D02000 ∷ [])) 1 (start 1 0 0))) (3 ∷ 0 ∷ [])
    -- for the translator: a jmpl that may not be held is with a stray bit no jmpl; a Ticc 8 with bit 29 traps no more
    ∷ row 0 (answered (0x81C3E008 ∷ 0x81C04002 ∷ []) 8192 12288) (4 ∷ 4 ∷ 0 ∷ [])
    ∷ row 0 (listed 2 3 (0x81C3E008 ∷ 0x81C04022 ∷ [])) (0 ∷ 2 ∷ 3 ∷ 0 ∷ 4 ∷ 0 ∷ 0 ∷ 4 ∷ 0 ∷ 2 ∷ 2 ∷ 3 ∷ 0x81C3E008 ∷ 0 ∷ 5 ∷ 2 ∷ 0 ∷ 7 ∷ 3 ∷ 4 ∷ [])
    ∷ row 0 (listed 1 1 (0xB1D02000 ∷ [])) (0 ∷ 1 ∷ 1 ∷ 0 ∷ 4 ∷ 0 ∷ 0 ∷ 7 ∷ 3 ∷ 0 ∷ [])
    -- and for kinds 1 and 3
    ∷ row 0 (step_at 0 (1 ∷ 0x82004002 ∷ 0 ∷ [])) (0 ∷ 0 ∷ [])
    ∷ row 0 (step_at 0 (1 ∷ 0x82004022 ∷ 0 ∷ [])) (7 ∷ 0 ∷ [])
    ∷ row 0 (step_at 0 (3 ∷ 0x81C04002 ∷ 0 ∷ [])) (0 ∷ 0 ∷ [])
    ∷ row 0 (step_at 0 (3 ∷ 0x81C04022 ∷ 0 ∷ [])) (7 ∷ 0 ∷ [])
    -- 02, N4: "the high 32 bits go to Y, the low to rd": 0x80000000 squared, unsigned and signed
    ∷ row 0 (product 2 (run (over (0x84504001 ∷ [])) 1 (start 1 0x80000000 15))) (0x40000000 ∷ 0 ∷ 15 ∷ [])
    ∷ row 0 (product 2 (run (over (0x84584001 ∷ [])) 1 (start 1 0x80000000 15))) (0x40000000 ∷ 0 ∷ 15 ∷ [])
    -- 0x80000000 times -1, unsigned and signed
    ∷ row 0 (product 2 (run (over (0x84507FFF ∷ [])) 1 (start 1 0x80000000 0))) (0x7FFFFFFF ∷ 0x80000000 ∷ 0 ∷ [])
    ∷ row 0 (product 2 (run (over (0x84587FFF ∷ [])) 1 (start 1 0x80000000 0))) (0 ∷ 0x80000000 ∷ 0 ∷ [])
    -- rd the same register as rs1 and rs2
    ∷ row 0 (product 1 (run (over (0x82504001 ∷ [])) 1 (start 1 0xFFFFFFFF 0))) (0xFFFFFFFE ∷ 1 ∷ 0 ∷ [])
    ∷ row 0 (product 1 (run (over (0x82584001 ∷ [])) 1 (start 1 0xFFFFFFFF 0))) (0 ∷ 1 ∷ 0 ∷ [])
    -- "the flag forms set N and Z from the low word and clear V and C", Y and flags also where rd is 0
    ∷ row 0 (product 0 (run (over (0x80D04001 ∷ [])) 1 (start 1 0x80000000 15))) (0x40000000 ∷ 0 ∷ 4 ∷ [])
    ∷ row 0 (product 0 (run (over (0x80D86001 ∷ [])) 1 (start 1 0x80000000 15))) (0xFFFFFFFF ∷ 0 ∷ 8 ∷ [])
    ∷ row 0 (product 2 (run (over (0x84D04001 ∷ [])) 1 (start 1 0xFFFFFFFF 15))) (0xFFFFFFFE ∷ 1 ∷ 0 ∷ [])
    -- "Wry writes rs1 xor operand without delay": the word behind it reads what was written
    ∷ row 0 (product 1 (run (over (0x81806005 ∷ 0x83400000 ∷ [])) 2 (start 1 6 15))) (3 ∷ 3 ∷ 15 ∷ [])
    ∷ row 0 (product 1 (run (over (0x81804001 ∷ [])) 1 (start 1 6 15))) (0 ∷ 6 ∷ 15 ∷ [])
    -- "no end changes it": ta 0 behind such a word
    ∷ row 0 (product 1 (run (over (0x81806005 ∷ 0x91D02000 ∷ [])) 9 (start 1 6 15))) (3 ∷ 6 ∷ 15 ∷ [])
    -- "Rdy with rs1 not 0 and wry with rd not 0 are illegal, as is rdy with any of bits 13 to 0 set"
    ∷ row 0 (ended (run (over (0x83400000 ∷ [])) 1 (start 1 0 0))) (0 ∷ 0 ∷ [])
    ∷ row 0 (ended (run (over (0x83404000 ∷ [])) 1 (start 1 0 0))) (3 ∷ 0 ∷ [])
    ∷ row 0 (ended (run (over (0x83440000 ∷ [])) 1 (start 1 0 0))) (3 ∷ 0 ∷ [])
    ∷ row 0 (ended (run (over (0x83402000 ∷ [])) 1 (start 1 0 0))) (3 ∷ 0 ∷ [])
    ∷ row 0 (ended (run (over (0x83400020 ∷ [])) 1 (start 1 0 0))) (3 ∷ 0 ∷ [])
    ∷ row 0 (ended (run (over (0x83400001 ∷ [])) 1 (start 1 0 0))) (3 ∷ 0 ∷ [])
    ∷ row 0 (ended (run (over (0x83806005 ∷ [])) 1 (start 1 0 0))) (3 ∷ 0 ∷ [])
    ∷ row 0 (ended (run (over (0xA1806005 ∷ [])) 1 (start 1 0 0))) (3 ∷ 0 ∷ [])
    -- and N2's unused bits: bits 12 to 5 of a wry and of a product with a register
    ∷ row 0 (ended (run (over (0x81804021 ∷ [])) 1 (start 1 0 0))) (3 ∷ 0 ∷ [])
    ∷ row 0 (ended (run (over (0x84505001 ∷ [])) 1 (start 1 0 0))) (3 ∷ 0 ∷ [])
    -- "The new core does these words as kind 1", and not one with such a bit
    ∷ row 0 (step_at 0 (1 ∷ 0x84504001 ∷ 0 ∷ [])) (0 ∷ 0 ∷ [])
    ∷ row 0 (step_at 0 (1 ∷ 0x83400000 ∷ 0 ∷ [])) (0 ∷ 0 ∷ [])
    ∷ row 0 (step_at 0 (1 ∷ 0x83404000 ∷ 0 ∷ [])) (7 ∷ 0 ∷ [])
    ∷ row 0 (step_at 0 (1 ∷ 0x83806005 ∷ 0 ∷ [])) (7 ∷ 0 ∷ [])
    -- "The state and each trail entry gain Y .. demand 3 takes any Y", on both cores
    ∷ row 0 (old_told squares (begins 0 0x10001 0) 9) (0 ∷ 0 ∷ 0x10001 ∷ 1 ∷ 4 ∷ 0x10001 ∷ 1 ∷ 8 ∷ 1 ∷ 1 ∷ 0 ∷ [])
    ∷ row 0 (new_told 3 5 squares (begins 0 0x10001 0) 9) (0 ∷ 0 ∷ 0x10001 ∷ 2 ∷ 4 ∷ 0x10001 ∷ 2 ∷ 8 ∷ 1 ∷ 1 ∷ 0 ∷ [])
    ∷ row 0 (y_told (entries (old_cut squares (begins 0 0x10001 0) 9))) (0 ∷ 1 ∷ 1 ∷ [])
    ∷ row 0 (y_told (entries (new_cut 3 5 squares (begins 0 0x10001 0) 9))) (0 ∷ 1 ∷ 1 ∷ [])
    ∷ row 0 (y_told (entries (old_cut (0x83400000 ∷ 0x91D02000 ∷ []) (begins_with_y 0 7) 9))) (7 ∷ 7 ∷ [])
    ∷ row 0 (new_told 2 3 (0x83400000 ∷ 0x91D02000 ∷ []) (begins_with_y 0 7) 9) (0 ∷ 0 ∷ 0 ∷ 2 ∷ 4 ∷ 7 ∷ 1 ∷ 0 ∷ [])
    -- 02, N11: "Save and restore add like add, reading in the old window and writing rd in the new. .. Ins and outs overlap": %sp, with a sum over
    -- 2^32, and %o6 as %i6; flags stay
    ∷ row 0 (windowed (14 ∷ 30 ∷ []) (run (over (0x9DE3BFA0 ∷ [])) 1 (start 14 1000 15))) (1 ∷ 15 ∷ 904 ∷ 1000 ∷ [])
    ∷ row 0 (windowed (14 ∷ 30 ∷ []) (run (over (0xBDE3A002 ∷ [])) 1 (start 14 0xFFFFFFFF 15))) (1 ∷ 15 ∷ 0 ∷ 1 ∷ [])
    -- locals are a window's own, globals of all; rd may be a global, and nothing is written to register 0
    ∷ row 0 (windowed (16 ∷ []) (run (over (0x81E00000 ∷ [])) 1 (start 16 7 0))) (1 ∷ 0 ∷ 0 ∷ [])
    ∷ row 0 (windowed (1 ∷ 2 ∷ 0 ∷ []) (run (over (0x85E06001 ∷ 0x81E06001 ∷ [])) 2 (start 1 7 0))) (2 ∷ 0 ∷ 7 ∷ 8 ∷ 0 ∷ [])
    -- and back: what the inner window left in its ins is found in the outs, and a restore reads in the inner window
    ∷ row 0 (windowed (16 ∷ 9 ∷ []) (run (over (0x81E00000 ∷ 0xB2002003 ∷ 0x81E80000 ∷ [])) 3 (start 16 7 0))) (0 ∷ 0 ∷ 7 ∷ 3 ∷ [])
    ∷ row 0 (windowed (8 ∷ 24 ∷ []) (run (over (0x81E00000 ∷ 0x91EE2001 ∷ [])) 2 (start 8 7 0))) (0 ∷ 0 ∷ 8 ∷ 0 ∷ [])
    -- the outs of window 6 are the ins of window 7, which nothing else writes; window 0's ins are no window's outs from 0 to 6
    ∷ row 0 (windowed (8 ∷ 24 ∷ []) (run (over (0x81E80000 ∷ 0x81E00000 ∷ [])) 2 (start 33 6 0))) (6 ∷ 0 ∷ 0 ∷ 0 ∷ [])
    -- "A save at 6 or a restore at 0 ends the run and changes nothing. .. 8, too many saves; 9, too many restores, each with the nesting": after six
    -- saves a seventh, and after one restore too many
    ∷ row 0 (ended (run (over (replicate 7 0x81E00000)) 6 (start 1 0 0))) (0 ∷ 0 ∷ [])
    ∷ row 0 (ended (run (over (replicate 7 0x81E00000)) 7 (start 1 0 0))) (8 ∷ 6 ∷ [])
    ∷ row 0 (windowed (14 ∷ []) (run (over (0x9DE3BFA0 ∷ [])) 1 (start 33 6 5))) (6 ∷ 5 ∷ 0 ∷ [])
    ∷ row 0 (ended (run (over (0x81E00000 ∷ 0x81E80000 ∷ 0x91EA2001 ∷ [])) 3 (start 1 0 0))) (9 ∷ 0 ∷ [])
    ∷ row 0 (windowed (8 ∷ []) (run (over (0x91EA2001 ∷ [])) 1 (start 8 7 5))) (0 ∷ 5 ∷ 7 ∷ [])
    -- N2's unused bits; kind 1 does both words
    ∷ row 0 (ended (run (over (0x81E00020 ∷ [])) 1 (start 33 6 0))) (3 ∷ 0 ∷ [])
    ∷ row 0 (step_at 0 (1 ∷ 0x81E00000 ∷ 0 ∷ [])) (0 ∷ 0 ∷ [])
    ∷ row 0 (step_at 0 (1 ∷ 0x81E80000 ∷ 0 ∷ [])) (9 ∷ 0 ∷ [])
    ∷ row 0 (step_at 0 (1 ∷ 0x81E80020 ∷ 0 ∷ [])) (7 ∷ 0 ∷ [])
    -- "Trail entries show the nesting and every window", on both cores: the local and the out that window 0 had, and the local of window 1
    ∷ row 0 (windows_told (entries (old_cut windows (begins 0 7 0) 9))) (0 ∷ 0 ∷ 0 ∷ 0 ∷ 0 ∷ 7 ∷ 0 ∷ 0 ∷ 0 ∷ 7 ∷ 7 ∷ 0 ∷ 1 ∷ 7 ∷ 7 ∷ 0 ∷ 1 ∷ 7 ∷ 7 ∷ 7 ∷ [])
    ∷ row 0 (windows_told (entries (new_cut 5 9 windows (begins 0 7 0) 9))) (0 ∷ 0 ∷ 0 ∷ 0 ∷ 0 ∷ 7 ∷ 0 ∷ 0 ∷ 0 ∷ 7 ∷ 7 ∷ 0 ∷ 1 ∷ 7 ∷ 7 ∷ 0 ∷ 1 ∷ 7 ∷ 7 ∷ 7 ∷ [])
    -- "demand 3 takes any windows and any nesting from 0 to 6, and a nesting handed in above 6 counts as 6": the whole file that a first entry shows
    ∷ row 0 (file_told (entries (old_cut windows any_windows 1))) (0 ∷ up_to (λ i. i + 2) 32 ++ (6 ∷ up_to (λ i. i + 35) 96 ++ up_to (λ i. i + 25) 8 ++ up_to (λ i. i + 17) 8 ++ up_to (λ i. i + 9) 8 ++ up_to (λ i. i + 155) 8))
    ∷ row 0 (file_told (entries (new_cut 5 9 windows any_windows 1))) (0 ∷ up_to (λ i. i + 2) 32 ++ (6 ∷ up_to (λ i. i + 35) 96 ++ up_to (λ i. i + 25) 8 ++ up_to (λ i. i + 17) 8 ++ up_to (λ i. i + 9) 8 ++ up_to (λ i. i + 155) 8))
    -- an entry shows all of its state wherever it stands, and each stands: in a plain place, a slot, behind a word that wrote data and one that set
    -- flags; held; and at a landing, whose word is in the image and has no place, or is outside
    ∷ row 0 (whole_told (old_cut touches (any_state 8) 9))
    (whole 8 0 12 11 (1 ∷ 2 ∷ 3 ∷ []) ++ whole 8 4 12 11 (1 ∷ 2 ∷ 3 ∷ []) ++ whole 8 12 12 11 (1 ∷ 12 ∷ 3 ∷ [])
    ++ whole 8 16 4294967295 9 (1 ∷ 12 ∷ 3 ∷ []) ++ (1 ∷ 0 ∷ []))
    ∷ row 0 (whole_told (new_cut 4 6 touches (any_state 8) 9))
    (whole 8 0 12 11 (1 ∷ 2 ∷ 3 ∷ []) ++ whole 8 4 12 11 (1 ∷ 2 ∷ 3 ∷ []) ++ whole 8 12 12 11 (1 ∷ 12 ∷ 3 ∷ [])
    ++ whole 8 16 4294967295 9 (1 ∷ 12 ∷ 3 ∷ []) ++ (1 ∷ 0 ∷ []))
    ∷ row 0 (whole_told (old_cut strays (any_state 8) 3))
    (whole 8 0 12 11 (1 ∷ 2 ∷ 3 ∷ []) ++ whole 8 4 12 11 (1 ∷ 2 ∷ 3 ∷ []) ++ whole 8 12 13 11 (1 ∷ 2 ∷ 3 ∷ []) ++ (0 ∷ 0 ∷ []))
    ∷ row 0 (whole_told (new_cut 2 4 strays (any_state 8) 9))
    (whole 8 0 12 11 (1 ∷ 2 ∷ 3 ∷ []) ++ whole 8 4 12 11 (1 ∷ 2 ∷ 3 ∷ []) ++ whole 8 12 13 11 (1 ∷ 2 ∷ 3 ∷ []) ++ (6 ∷ 12 ∷ []))
    ∷ row 0 (whole_told (old_cut strays (any_state 60) 9))
    (whole 60 0 64 11 (1 ∷ 2 ∷ 3 ∷ []) ++ whole 60 4 64 11 (1 ∷ 2 ∷ 3 ∷ []) ++ whole 60 64 65 11 (1 ∷ 2 ∷ 3 ∷ []) ++ (2 ∷ 64 ∷ []))
    ∷ row 0 (whole_told (new_cut 2 4 strays (any_state 60) 9))
    (whole 60 0 64 11 (1 ∷ 2 ∷ 3 ∷ []) ++ whole 60 4 64 11 (1 ∷ 2 ∷ 3 ∷ []) ++ whole 60 64 65 11 (1 ∷ 2 ∷ 3 ∷ []) ++ (2 ∷ 64 ∷ []))
    -- trails that close with 3, 4, 5, 8 and 9, in a plain place, in a slot and held
    ∷ row 0 (old_closes 0 0) (0 ∷ 0 ∷ 12 ∷ 3 ∷ 0 ∷ 0 ∷ 0 ∷ 12 ∷ 1 ∷ 4 ∷ 12 ∷ 3 ∷ 4 ∷ 0 ∷ 0 ∷ 12 ∷ 1 ∷ 4 ∷ 12 ∷ 3 ∷ 4 ∷ [])
    ∷ row 0 (new_told 1 1 (0 ∷ []) (nested_at 0) 9 ++ new_told 2 2 (slotted 0) (nested_at 0) 9 ++ new_told 2 3 (held 0) (nested_at 0) 9)
    (0 ∷ 0 ∷ 12 ∷ 3 ∷ 0 ∷ 0 ∷ 0 ∷ 12 ∷ 1 ∷ 4 ∷ 12 ∷ 3 ∷ 4 ∷ 0 ∷ 0 ∷ 12 ∷ 2 ∷ 4 ∷ 12 ∷ 3 ∷ 4 ∷ [])
    ∷ row 0 (old_closes 0 0xC4006002) (0 ∷ 0 ∷ 12 ∷ 4 ∷ 14 ∷ 0 ∷ 0 ∷ 12 ∷ 1 ∷ 4 ∷ 12 ∷ 4 ∷ 14 ∷ 0 ∷ 0 ∷ 12 ∷ 1 ∷ 4 ∷ 12 ∷ 4 ∷ 14 ∷ [])
    ∷ row 0 (new_closes 0 0xC4006002) (0 ∷ 0 ∷ 12 ∷ 4 ∷ 14 ∷ 0 ∷ 0 ∷ 12 ∷ 1 ∷ 4 ∷ 12 ∷ 4 ∷ 14 ∷ 0 ∷ 0 ∷ 12 ∷ 2 ∷ 4 ∷ 12 ∷ 4 ∷ 14 ∷ [])
    ∷ row 0 (old_closes 0 0xC4006000) (0 ∷ 0 ∷ 12 ∷ 5 ∷ 12 ∷ 0 ∷ 0 ∷ 12 ∷ 1 ∷ 4 ∷ 12 ∷ 5 ∷ 12 ∷ 0 ∷ 0 ∷ 12 ∷ 1 ∷ 4 ∷ 12 ∷ 5 ∷ 12 ∷ [])
    ∷ row 0 (new_closes 0 0xC4006000) (0 ∷ 0 ∷ 12 ∷ 5 ∷ 12 ∷ 0 ∷ 0 ∷ 12 ∷ 1 ∷ 4 ∷ 12 ∷ 5 ∷ 12 ∷ 0 ∷ 0 ∷ 12 ∷ 2 ∷ 4 ∷ 12 ∷ 5 ∷ 12 ∷ [])
    ∷ row 0 (old_closes 6 0x81E00000) (0 ∷ 0 ∷ 12 ∷ 8 ∷ 6 ∷ 0 ∷ 0 ∷ 12 ∷ 1 ∷ 4 ∷ 12 ∷ 8 ∷ 6 ∷ 0 ∷ 0 ∷ 12 ∷ 1 ∷ 4 ∷ 12 ∷ 8 ∷ 6 ∷ [])
    ∷ row 0 (new_closes 6 0x81E00000) (0 ∷ 0 ∷ 12 ∷ 8 ∷ 6 ∷ 0 ∷ 0 ∷ 12 ∷ 1 ∷ 4 ∷ 12 ∷ 8 ∷ 6 ∷ 0 ∷ 0 ∷ 12 ∷ 2 ∷ 4 ∷ 12 ∷ 8 ∷ 6 ∷ [])
    ∷ row 0 (old_closes 0 0x81E80000) (0 ∷ 0 ∷ 12 ∷ 9 ∷ 0 ∷ 0 ∷ 0 ∷ 12 ∷ 1 ∷ 4 ∷ 12 ∷ 9 ∷ 0 ∷ 0 ∷ 0 ∷ 12 ∷ 1 ∷ 4 ∷ 12 ∷ 9 ∷ 0 ∷ [])
    ∷ row 0 (new_closes 0 0x81E80000) (0 ∷ 0 ∷ 12 ∷ 9 ∷ 0 ∷ 0 ∷ 0 ∷ 12 ∷ 1 ∷ 4 ∷ 12 ∷ 9 ∷ 0 ∷ 0 ∷ 0 ∷ 12 ∷ 2 ∷ 4 ∷ 12 ∷ 9 ∷ 0 ∷ [])
    -- how many entries so many steps lead to, and how many stand: an annulled word between two of them has none
    ∷ row 0 (reached 0 (0 ∷ 2 ∷ 1 ∷ []) ∷ reached 1 (0 ∷ 2 ∷ 1 ∷ []) ∷ reached 2 (0 ∷ 2 ∷ 1 ∷ []) ∷ reached 3 (0 ∷ 2 ∷ 1 ∷ []) ∷ reached 9 (0 ∷ 2 ∷ 1 ∷ []) ∷ [])
    (1 ∷ 1 ∷ 2 ∷ 3 ∷ 3 ∷ [])
    ∷ row 0 (map (λ n. stood (old_over (bytes_of p4) 0 0) n (old_begin (begins 0 0 0))) (0 ∷ 1 ∷ 2 ∷ 3 ∷ 4 ∷ 9 ∷ [])) (1 ∷ 1 ∷ 2 ∷ 3 ∷ 3 ∷ 3 ∷ [])
    -- "a kind 7 whose first is not 2 or 3, with the record number": firsts 0 to 9, at record 1
    ∷ row 0 (stops_with 0 ++ stops_with 1 ++ stops_with 2 ++ stops_with 3 ++ stops_with 4 ++ stops_with 5 ++ stops_with 6 ++ stops_with 7 ++ stops_with 8 ++ stops_with 9)
    (7 ∷ 1 ∷ 7 ∷ 1 ∷ 2 ∷ 9 ∷ 3 ∷ 9 ∷ 7 ∷ 1 ∷ 7 ∷ 1 ∷ 7 ∷ 1 ∷ 7 ∷ 1 ∷ 7 ∷ 1 ∷ 7 ∷ 1 ∷ [])
    -- "Kind 6 seeks the lowest-numbered plain place of the held address", a begin likewise
    ∷ row 0 (new_ended (run (new_next (bytes_of goes_or_ends) (bytes_of twice) 0 16 0) 2 (live (new (machine (replicate file_size 0) 0 []) 0 8)))) (2 ∷ 5 ∷ [])
    ∷ row 0 (told (trail_of (new_over (bytes_of goes_or_ends) (bytes_of twice) 0 16 0) 9 (new_begin (bytes_of twice) 0 16 (begins 8 7 0)))) (0 ∷ 8 ∷ 7 ∷ 2 ∷ 5 ∷ [])
    -- the held address stays: a kind 6 behind a kind 6 goes by it again
    ∷ row 0 (new_ended (run (new_next (bytes_of (6 ∷ 0 ∷ 0 ∷ 6 ∷ 0 ∷ 0 ∷ [])) (bytes_of twice) 0 16 0) 2 (live (new (machine (replicate file_size 0) 0 []) 0 8)))) (0 ∷ 0 ∷ [])
    -- "in a malformed table that of the lowest-numbered place naming that record", of whatever kind it is
    ∷ row 0 (told (trail (new_over (bytes_of (5 ∷ 0 ∷ 0 ∷ [])) (bytes_of (8 ∷ 0 ∷ 9 ∷ 0 ∷ 4 ∷ 8 ∷ 0 ∷ 0 ∷ [])) 0 16 0) 2 9 0 (live (new (machine (replicate file_size 0) 0 []) 0 0)))) (0 ∷ 8 ∷ 0 ∷ 1 ∷ 8 ∷ 0 ∷ 0 ∷ 0 ∷ [])
    -- "the order is: PC a multiple of 4, PC in the image": a misaligned address inside, and one outside
    ∷ row 0 (old_told (nop ∷ nop ∷ []) (begins 2 7 0) 9 ++ old_told (nop ∷ nop ∷ []) (begins 10 7 0) 9) (0 ∷ 2 ∷ 7 ∷ 4 ∷ 2 ∷ 0 ∷ 10 ∷ 7 ∷ 4 ∷ 10 ∷ [])
    -- "(address − base) modulo 2^32, plus 4, is at most its length": the one word of an image, and one past it; no whole word
    ∷ row 0 (old_told (0x91D02000 ∷ []) (begins 0 7 0) 9 ++ old_told (0x91D02000 ∷ []) (begins 4 7 0) 9) (0 ∷ 0 ∷ 7 ∷ 1 ∷ 0 ∷ 0 ∷ 4 ∷ 7 ∷ 2 ∷ 4 ∷ [])
    ∷ row 0 (new_told 1 1 (0x91D02000 ∷ []) (begins 0 7 0) 9 ++ new_told 1 1 (0x91D02000 ∷ []) (begins 4 7 0) 9) (0 ∷ 0 ∷ 7 ∷ 1 ∷ 0 ∷ 0 ∷ 4 ∷ 7 ∷ 2 ∷ 4 ∷ [])
    ∷ row 0 (listed 1 1 (0x91D02000 ∷ []) ++ answer_numbers (given (0x91D02000 ∷ []) (4 ∷ []) 16 12).answer) (0 ∷ 1 ∷ 1 ∷ 0 ∷ 4 ∷ 0 ∷ 0 ∷ 1 ∷ 0x91D02000 ∷ 0 ∷ 3 ∷ 1 ∷ 0 ∷ [])
    ∷ row 0 (told (trail_of (old_over (replicate 7 0) 0 0) 9 (old_begin (begins 4 7 0))) ++ told (trail_of (old_over (replicate 3 0) 0 0) 9 (old_begin (begins 0 7 0)))
    ++ old_told [] (begins 0 7 0) 9)
    (0 ∷ 4 ∷ 7 ∷ 2 ∷ 4 ∷ 0 ∷ 0 ∷ 7 ∷ 2 ∷ 0 ∷ 0 ∷ 0 ∷ 7 ∷ 2 ∷ 0 ∷ [])
    ∷ row 0 (new_begins_end 8 4 ++ new_begins_end 7 4 ++ new_begins_end 4 0 ++ new_begins_end 3 0 ++ new_begins_end 0 0) (6 ∷ 4 ∷ 2 ∷ 4 ∷ 6 ∷ 0 ∷ 2 ∷ 0 ∷ 2 ∷ 0 ∷ [])
    ∷ row 0 (answer_numbers (given p1 (12 ∷ []) 16 12).answer ++ answer_numbers (given p1 (16 ∷ []) 16 12).answer) (0 ∷ 1 ∷ 1 ∷ 3 ∷ 1 ∷ 0 ∷ [])
    -- "Data is one lent area of 0 to 65,536 bytes ..; bytes past that are no part of it": byte 65,535 is written and read, byte 65,536 is not there
    ∷ row 0 (last_bytes 65535 (replicate 65537 0)) (255 ∷ 5 ∷ 65536 ∷ [])
    -- "Bicc 0 without annul ..: plain n": one 5, in a plain place and in a slot; held: 1, 6
    ∷ row 0 (listed 3 4 (0x00800004 ∷ nop ∷ 0 ∷ []))
    (0 ∷ 3 ∷ 4 ∷ 0 ∷ 4 ∷ 0 ∷ 0 ∷ 4 ∷ 8 ∷ 0 ∷ 1 ∷ 8 ∷ 12 ∷ 0 ∷ 3 ∷ 5 ∷ 1 ∷ 0 ∷ 1 ∷ 0x01000000 ∷ 0 ∷ 5 ∷ 3 ∷ 0 ∷ 7 ∷ 3 ∷ 8 ∷ [])
    ∷ row 0 (listed 4 5 (slotted 0x00800004))
    (0 ∷ 4 ∷ 5
    ∷ 0 ∷ 4 ∷ 0 ∷ 0 ∷ 4 ∷ 16 ∷ 1 ∷ 1 ∷ 16 ∷ 20 ∷ 0 ∷ 2 ∷ 20 ∷ 24 ∷ 0 ∷ 4
    ∷ 5 ∷ 1 ∷ 0 ∷ 5 ∷ 2 ∷ 0 ∷ 1 ∷ 0x01000000 ∷ 0 ∷ 5 ∷ 4 ∷ 0 ∷ 7 ∷ 3 ∷ 20
    ∷ [])
    ∷ row 0 (listed 2 4 (held 0x00800004))
    (0 ∷ 2 ∷ 4 ∷ 0 ∷ 4 ∷ 0 ∷ 0 ∷ 4 ∷ 0 ∷ 2 ∷ 2 ∷ 3 ∷ 0x81C06000 ∷ 0 ∷ 5 ∷ 2 ∷ 0 ∷ 1 ∷ 0x00800004 ∷ 0 ∷ 6 ∷ 0 ∷ 0 ∷ [])
    ∷ row 0 (old_told (held 0x00800004) (begins 0 12 0) 3) (0 ∷ 0 ∷ 12 ∷ 1 ∷ 4 ∷ 12 ∷ 1 ∷ 12 ∷ 12 ∷ 0 ∷ 0 ∷ [])
    ∷ row 0 (new_told 2 4 (held 0x00800004) (begins 0 12 0) 9) (0 ∷ 0 ∷ 12 ∷ 2 ∷ 4 ∷ 12 ∷ 2 ∷ 12 ∷ 12 ∷ 6 ∷ 12 ∷ [])
    ∷ []

pub no_case : Row
no_case = record { case = 0; got = []; want = [] }
