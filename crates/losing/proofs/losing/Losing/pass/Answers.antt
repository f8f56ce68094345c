use Rattle.std.proofs.Common.{◌≡◌, sym, refl, ◌∙◌, rules}
use Rattle.losing.specs.Loss.{mark_at}
use Rattle.losing.specs.declared.mark.Mark.TheVariants.{Passes, Unanswered}
use Rattle.losing.proofs.losing.Losing.pass.Goals as goal

pub returns-in-Passes-clause-below : goal.returns-in-Passes-clause-below
returns-in-Passes-clause-below g c =
    let mark : mark_at c.args.self.now.marks c.args.self.now.next ≡ Passes = sym c.turn.ensures.value ∙ c.in-Passes.is in
    let same = c.turn.ensures.after.0 in
    rw (mark, ← same) (search rules)

pub returns-in-Unanswered-clause-below : goal.returns-in-Unanswered-clause-below
returns-in-Unanswered-clause-below g c =
    let mark : mark_at c.args.self.now.marks c.args.self.now.next ≡ Unanswered = sym c.turn.ensures.value ∙ c.in-Unanswered.is in
    let same = c.turn.ensures.after.0 in
    rw (mark, ← same) (c.send-in-Unanswered.result, search rules, refl)
