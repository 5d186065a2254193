-- What the code answers of a word, as the definitions of model have it.
use Rattle.words.specs.declared.Operand.TheVariants.{Constant}
use Rattle.words.specs.declared.Flow.{Flow}
use Rattle.words.specs.declared.Flow.TheVariants.{Faults, Continues, Traps, Calls, Branches, Jumps}
use Rattle.model.specs.OldCore.{Transfer, illegal, straight, trap, call, bicc, jmpl}

-- a transfer with that flow: the rules of places and records do not look at a jmpl's operands, so any will do (`by_flow`)
unfoldable pub transferred : Flow → Transfer
transferred Faults = illegal
transferred Continues = straight
transferred Traps = trap
transferred (Calls disp) = call disp
transferred (Branches cond annul disp) = bicc cond annul disp
transferred (Jumps rd) = jmpl rd 0 (Constant 0)
