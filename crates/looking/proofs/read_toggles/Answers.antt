use Rattle.procedures.proofs.Steps.{given}
use Rattle.looking.proofs.Checks.{good, ends}
use Rattle.looking.proofs.read_toggles.Goals as goal

pub returns-in_err-exfak : goal.returns-in_err-exfak
returns-in_err-exfak g c = ends _ _ _ c.from_residual.ensures.1 c.in_err-exfak.ensures

pub returns-in_err-dpsstat : goal.returns-in_err-dpsstat
returns-in_err-dpsstat g c = good _ c.in_ok-exfak.ensures (ends _ _ _ c.from_residual-in_err-dpsstat.ensures.1 c.in_err-dpsstat.ensures)

pub returns-in_err-dpastat : goal.returns-in_err-dpastat
returns-in_err-dpastat g c = good _ c.in_ok-exfak.ensures (good _ c.in_ok-dpsstat.ensures (ends _ _ _ c.from_residual-in_err-dpastat.ensures.1 c.in_err-dpastat.ensures))

pub returns : goal.returns
returns g c = good _ c.in_ok-exfak.ensures (good _ c.in_ok-dpsstat.ensures (good _ c.in_ok-dpastat.ensures given))
