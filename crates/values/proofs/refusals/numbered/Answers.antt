-- `numbered` meets its contract: each arm is the definition's case.
use mathlib.Core.Path.{sym, ap}
use Rattle.rules.specs.Refusals.{numbered}
use Rattle.values.proofs.refusals.numbered.Goals as goal

pub returns-in-TooManyVariables : goal.returns-in-TooManyVariables
returns-in-TooManyVariables c = sym (ap numbered c.in-TooManyVariables.is)

pub returns-in-BadTable : goal.returns-in-BadTable
returns-in-BadTable c = sym (ap numbered c.in-BadTable.is)

pub returns-in-BadCapacity : goal.returns-in-BadCapacity
returns-in-BadCapacity c = sym (ap numbered c.in-BadCapacity.is)

pub returns-in-NoRoom : goal.returns-in-NoRoom
returns-in-NoRoom c = sym (ap numbered c.in-NoRoom.is)

pub returns-in-BadLiterals : goal.returns-in-BadLiterals
returns-in-BadLiterals c = sym (ap numbered c.in-BadLiterals.is)

pub returns-in-BadWeight : goal.returns-in-BadWeight
returns-in-BadWeight c = sym (ap numbered c.in-BadWeight.is)

pub returns-in-SumTooLarge : goal.returns-in-SumTooLarge
returns-in-SumTooLarge c = sym (ap numbered c.in-SumTooLarge.is)

pub returns-in-BadReading : goal.returns-in-BadReading
returns-in-BadReading c = sym (ap numbered c.in-BadReading.is)

pub returns-in-BadBudget : goal.returns-in-BadBudget
returns-in-BadBudget c = sym (ap numbered c.in-BadBudget.is)

pub returns-in-BadDesk : goal.returns-in-BadDesk
returns-in-BadDesk c = sym (ap numbered c.in-BadDesk.is)

pub returns-in-TooManySteps : goal.returns-in-TooManySteps
returns-in-TooManySteps c = sym (ap numbered c.in-TooManySteps.is)

pub returns-in-BadLiteral : goal.returns-in-BadLiteral
returns-in-BadLiteral c = sym (ap numbered c.in-BadLiteral.is)

pub returns-in-BadNaming : goal.returns-in-BadNaming
returns-in-BadNaming c = sym (ap numbered c.in-BadNaming.is)

pub returns-in-BadFit : goal.returns-in-BadFit
returns-in-BadFit c = sym (ap numbered c.in-BadFit.is)

pub returns-in-DeskFull : goal.returns-in-DeskFull
returns-in-DeskFull c = sym (ap numbered c.in-DeskFull.is)

pub returns-in-NothingStands : goal.returns-in-NothingStands
returns-in-NothingStands c = sym (ap numbered c.in-NothingStands.is)

pub returns-in-InputTooLong : goal.returns-in-InputTooLong
returns-in-InputTooLong c = sym (ap numbered c.in-InputTooLong.is)

pub returns-in-BadText : goal.returns-in-BadText
returns-in-BadText c = sym (ap numbered c.in-BadText.is)
