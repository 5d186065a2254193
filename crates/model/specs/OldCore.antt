-- 01, The old core: the loop over PC, nPC and annul.
use Rattle.std.specs.Prelude.{ℕ, ◌+◌, ◌*◌, ◌%◌, Bool, true, false, ◌&&◌, List, leb, eqb, length}
use Rattle.std.specs.Prelude.{Some, None}
use Rattle.std.specs.Prelude.{Option as Read}
use Rattle.std.proofs.Math.Option.{Option, none, some}
use Rattle.numbers.specs.Choice.{pick}
use Rattle.numbers.specs.Number.{plus, minus, number_at}
use Rattle.words.specs.Reader.{instruction_of}
use Rattle.words.specs.Conditions.{holds_of}
use Rattle.words.specs.declared.Operand.{Operand}
use Rattle.words.specs.declared.Instruction.{Instruction}
use Rattle.words.specs.declared.Instruction.TheVariants.{Illegal, Call, Sethi, Bicc, Arithmetic, Jmpl, Ticc, Load, Store, Shift, Rdy, Wry, Window}
use Rattle.machine.specs.Ends.{ending, Next, go, halt, within, State, live}
use Rattle.machine.specs.Registers.{put_register, address_of}
use Rattle.effects.specs.Effect.{Machine, with_registers, effect_of}

-- "State: 32 registers of 32 bits, flags N, Z, V, C, PC, nPC, annul". 02, N4: "The state and each trail entry gain Y"; N11: "Add V8's windows":
-- registers, Y and windows, flags and data, then PC, nPC, annul
pub data Old : Type 0 where
  old : Machine → ℕ → ℕ → Bool → Old

abbrev pub old_machine : Old → Machine
old_machine (old m pc npc annul) = m

-- "An address lies in the image if (address − base) modulo 2^32, plus 4, is at most its length."
unfoldable pub in_image : ℕ → ℕ → ℕ → Bool
in_image base size p = leb (minus p base + 4) size

-- the word at an address that lies in the image
unfoldable pub word_in : List ℕ → ℕ → ℕ → Option ℕ
word_in image base p = pick (in_image base (length image) p) (some (number_at image (minus p base))) none

-- the same, as code answers it
unfoldable pub word_of : Read ℕ → Option ℕ
word_of (Some w) = some w
word_of None = none

-- What a word does to control: nothing, or one of the ways that 01 tells apart. Three types speak of a word, since three readers want
-- different parts of it. `Instruction` (words) is all of it, and what the cores execute. `Transfer` is what decides where control goes, with a
-- jmpl's operands, from which its address comes: the old core's step, places and records are functions of it (places also of whether an unimp
-- stands behind a call), so that a word that does not transfer touches none of them. `Flow` (words) is that without a jmpl's operands, which
-- places and records never ask for (`by_flow`): the translator's code reads no more of a word, for its speed.
pub data Transfer : Type 0 where
  -- straight: none; trap: a Ticc 8, which is always taken
  illegal straight trap : Transfer
  -- displacement, in words
  call : ℕ → Transfer
  -- condition, annul bit, displacement
  bicc : ℕ → Bool → ℕ → Transfer
  -- rd, rs1, second operand
  jmpl : ℕ → ℕ → Operand → Transfer

unfoldable pub transfer_of : Instruction → Transfer
transfer_of Illegal = illegal
transfer_of (Call disp) = call disp
transfer_of (Sethi rd imm) = straight
transfer_of (Bicc cond annul disp) = bicc cond annul disp
transfer_of (Arithmetic o cc rd rs1 x) = straight
transfer_of (Jmpl rd rs1 x) = jmpl rd rs1 x
transfer_of (Ticc cond rs1 x) = pick (eqb cond 8) trap straight
transfer_of (Load o rd rs1 x) = straight
transfer_of (Store w rd rs1 x) = straight
transfer_of (Shift o rd rs1 x) = straight
transfer_of (Rdy rd) = straight
transfer_of (Wry s) = straight
-- 02, N11: "Translation treats them as words that don't transfer."
transfer_of (Window o rd rs1 x) = straight

-- where a displacement, which counts words, leads from an address
unfoldable pub target : ℕ → ℕ → ℕ
target p disp = plus p (4 * disp)

-- "PC then becomes nPC, and nPC gains 4"
unfoldable pub follows : ℕ → Machine → Old
follows npc m = old m npc (plus npc 4) false

-- "or, after a call, a jmpl or a Bicc whose condition holds, becomes its target.
-- A Bicc with the annul bit sets annul where its condition is 8 or fails."
unfoldable pub branches : Bool → Bool → Bool → Machine → ℕ → ℕ → Old
branches true always annul m npc t = old m npc t (annul && always)
branches false always annul m npc t = old m npc (plus npc 4) annul

-- "Jmpl takes its address from the registers before it writes its own address to rd; a misaligned address leaves rd untouched."
unfoldable pub jumps : ℕ → ℕ → Machine → ℕ → ℕ → Next Old
jumps t rd m pc npc =
    pick (eqb (t % 4) 0) (go (old (with_registers m (put_register m.registers rd pc)) npc t false)) (halt (ending 4 t))

-- "known word, its effect"; "Call writes its own address to register 15."
unfoldable pub executes : ℕ → Transfer → Instruction → Machine → ℕ → ℕ → Next Old
executes db illegal i m pc npc = halt (ending 3 pc)
executes db straight i m pc npc = within (follows npc) (effect_of db i m)
executes db trap i m pc npc = within (follows npc) (effect_of db i m)
executes db (call disp) i m pc npc = go (old (with_registers m (put_register m.registers 15 pc)) npc (target pc disp) false)
executes db (bicc cond annul disp) i m pc npc =
    go (branches (holds_of cond m.flags) (eqb cond 8) annul m npc (target pc disp))
executes db (jmpl rd rs1 x) i m pc npc = jumps (address_of m.registers rs1 x) rd m pc npc

-- "PC in the image"
unfoldable pub fetches : ℕ → Option ℕ → Machine → ℕ → ℕ → Next Old
fetches db none m pc npc = halt (ending 2 pc)
fetches db (some word) m pc npc = executes db (transfer_of (instruction_of word)) (instruction_of word) m pc npc

-- "An annulled word is passed unread: annul clears, PC becomes nPC, nPC gains 4.
-- Otherwise the order is: PC a multiple of 4, PC in the image, known word, its effect."
-- "The old core is fed image, base, data base, its own state and the data area, and nothing of a translation."
unfoldable pub old_next : List ℕ → ℕ → ℕ → Old → Next Old
old_next image base db (old m pc npc true) = go (follows npc m)
old_next image base db (old m pc npc false) = pick (eqb (pc % 4) 0) (fetches db (word_in image base pc) m pc npc) (halt (ending 4 pc))

-- "Begun at an address, neither ended, .. the old core starts with PC there, nPC 4 further and annul clear."
unfoldable pub old_begun : ℕ → Machine → State Old
old_begun a m = live (old m a (plus a 4) false)
