use Rattle.std.proofs.Common.{rules, ◌≡◌, Err, ◌∙◌, sym, ap}
use Rattle.std.specs.Option.{ok_or}
use Rattle.codes.specs.declared.number.Refusal.TheVariants.{Malformed}
use Rattle.linecheck.proofs.Unread.{no_status}
use Rattle.linecheck.proofs.script.parse.Goals as goal

pub returns-in_err-end : goal.returns-in_err-end
returns-in_err-end c =
    let none = no_status c.without_last_end-lines.result.now c.in-Some-default-eq10.field-0-1.now c.in-Some-default-eq10.ensures.cases.2 c.in_err-end.ensures.value.1 in
    let refused : c.from_residual-in_err-end.result ≡ Err Malformed = search rules in
    let lines = c.without_last_end-lines.ensures in
    refused ∙ sym (ap (λ script. ok_or script Malformed) (rw lines at none))
