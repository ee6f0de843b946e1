-- `notation::forms::read_operand` meets its contract.
use Rattle.notation.proofs.Forming.{operand_start, operand_other}
use Rattle.notation.proofs.forms.read_operand.Goals as goal

pub returns-in-Start : goal.returns-in-Start
returns-in-Start c = rw c.in-Start.is (operand_start _ c.args.word.now c.is_name.ensures c.if-is_name.true)

pub returns-in-Start-2 : goal.returns-in-Start-2
returns-in-Start-2 c = rw c.in-Start.is (operand_other _ c.args.word.now c.is_name.ensures c.if-is_name.false)
