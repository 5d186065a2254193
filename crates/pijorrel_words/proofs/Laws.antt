-- Laws of forms, and the round trip of the six numbers.
use Prim.Native.Nat.{ℕ, ◌+◌, ◌*◌}
use mathlib.Core.Path.{◌≡◌, refl, sym, ◌∙◌}
use mathlib.Core.List.{List, [], ◌++◌, append-nil}
use native.Mathlib.Omega.{arith}
use lib.ListN.{length, take, drop, drop_of_length-le}
use lib.Dec.{eqb, ltb}
use Rattle.numbers.specs.Choice.{pick}
use Rattle.numbers.specs.Number.{minus, bytes_of}
use Rattle.numbers.proofs.Choice.{Misses, find_none, found_all}
use Rattle.words.specs.Reader.{Format2, rows2, none2, format2_of, Format3, rows3, none3, format3_of}
use Rattle.words.specs.Writer.{Written, refusal, arithmetic_op3, shift_op3, window_op3, load_op3, store_op3, long_word, shift_word, rdy_word, wry_word, trap_word, written_of}
use Rattle.words.specs.Flow.{flow_of, is_known}
use Rattle.words.specs.declared.Operand.{Operand}
use Rattle.pijorrel_words.specs.Forms.{operand_from, by_op, forms, instruction_from}

-- a form that is in no row goes by op
pub no_form : (form annul rd rs1 mark v : ℕ) → Misses (Unit {0}) (forms annul rd v) form
    → by_op form rd rs1 (operand_from mark v) ≡ instruction_from form annul rd rs1 mark v
unfolding instruction_from
no_form form annul rd rs1 mark v m = sym (find_none (forms annul rd v) (by_op form rd rs1 (operand_from mark v)) form m)

-- the word of a known form by its op3; where control faults there is none
abbrev pub by_key : ℕ → ℕ → ℕ → Operand → Written
by_key op3 rd rs1 x =
    pick (eqb op3 58) (trap_word rd rs1 x)
    (pick (ltb (minus op3 37) 3) (shift_word rd op3 rs1 x)
    (pick (eqb op3 40) (rdy_word rd) (pick (eqb op3 48) (wry_word rs1 x) (long_word 2 rd op3 rs1 x))))

pub form_2 : (op3 rd rs1 : ℕ) (x : Operand) → written_of (format2_of op3 rd rd rs1 x) ≡ pick (is_known (flow_of (format2_of op3 0 0 rs1 x))) (by_key op3 rd rs1 x) (refusal 0)
unfolding format2_of written_of arithmetic_op3 shift_op3 window_op3 flow_of is_known minus
form_2 op3 rd rs1 x =
    found_all (λ (key : ℕ) (f : Format2). written_of (f rd rd rs1 x) ≡ pick (is_known (flow_of (f 0 0 rs1 x))) (by_key key rd rs1 x) (refusal 0)) rows2 none2 op3
    (refl, (refl, (refl, (refl, (refl, (refl, (refl, (refl, (refl, (refl, (refl, (refl, (refl, (refl, (refl, (refl, (refl, (refl, (refl, (refl, (refl, (refl, (refl, (refl, (refl, (refl, (refl, (refl, (refl, (refl, (refl, (refl, (refl, tt))))))))))))))))))))))))))))))))) refl

pub form_3 : (op3 rd rs1 : ℕ) (x : Operand) → written_of (format3_of op3 rd rs1 x) ≡ pick (is_known (flow_of (format3_of op3 rd rs1 x))) (long_word 3 rd op3 rs1 x) (refusal 0)
unfolding format3_of written_of load_op3 store_op3 flow_of is_known
form_3 op3 rd rs1 x =
    found_all (λ (key : ℕ) (f : Format3). written_of (f rd rs1 x) ≡ pick (is_known (flow_of (f rd rs1 x))) (long_word 3 rd key rs1 x) (refusal 0)) rows3 none3 op3
    (refl, (refl, (refl, (refl, (refl, (refl, (refl, (refl, tt)))))))) refl

-- numbers that fill an area
pub filled : (s t l : List ℕ) → length s ≡ 24 → length l ≡ 6 → t ≡ take 0 s ++ bytes_of l ++ drop (0 + 4 * length l) s → t ≡ bytes_of l
filled s t l h k e =
    let d : drop (0 + 4 * length l) s ≡ [] = drop_of_length-le s {i = 0 + 4 * length l} (omega arith) in
    e ∙ rw (d, append-nil)
