use Rattle.std.proofs.Common.{[], refl}
use Rattle.procedures.specs.Performed.{performed}
use Rattle.calls.proofs.connecting.configure.Goals as goal

-- no command is sent, so no line chooses
pub returns : goal.returns
unfolding performed
returns c = λ t. rw (← c.in_ok-refuse_configure.ensures) ([], refl, c.settle_configure.ensures, refl)
