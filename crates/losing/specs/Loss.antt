-- What a losing line makes of one command to the line below it.
use Rattle.std.specs.Prelude.{◌≡◌, ℕ, ◌+◌, ◌%◌, min, List, Some, None, Option, slice_index_or}
use Rattle.line.specs.declared.command.Command.{Command}
use Rattle.line.specs.declared.command.Reply.{Reply}
use Rattle.line.specs.State.{State}
use Rattle.losing.specs.declared.mark.Mark.{Mark}
use Rattle.losing.specs.declared.mark.Mark.TheVariants.{Passes, Unheard, Unanswered}

-- what happened to the line below, and what came back, under a mark, where `sent` is one sending to that line
abbrev pub Lost : {S A : Type 0} → (S → Option A → S → Type 0) → Mark → S → Option A → S → Type 0
Lost sent Passes s r t = sent s r t
Lost sent Unheard s r t = (t ≡ s) × (r ≡ None)
Lost {A = A} sent Unanswered s r t = (q : Option A) × sent s q t × (r ≡ None)

-- an answer sets the row to 0, and none adds 1
abbrev pub row_by : {A : Type 0} → Option A → ℕ → ℕ
row_by None n = min 255 (n + 1)
row_by (Some y) n = 0

abbrev pub turned : ℕ → ℕ
turned next = (next + 1) % 64

abbrev pub mark_at : List Mark → ℕ → Mark
mark_at marks next = slice_index_or marks next Passes

-- one sending: the line below under the mark that is next, the rotation one further, and the row
pub record Loses {S A : Type 0} (sent : S → Option A → S → Type 0) (marks : List Mark) (next row : ℕ) (s : S) (r : Option A) (t : S) (marks' : List Mark) (next' row' : ℕ) : Type 0 where
  pub below : Lost sent (mark_at marks next) s r t
  pub marks_stay : marks' ≡ marks
  pub next_turns : next' ≡ turned next
  pub row_counts : row' ≡ row_by r row

-- it tells what the line below tells, with its own row
abbrev pub told_over : State → ℕ → State
told_over below row = record { device = below.device; row = row }

-- Over a line with no choices left it has none either: its own state is that of the line below with marks,
-- rotation and row.
pub record OwnOver (O : Type 0) : Type 0 where
  pub below : O
  pub marks : List Mark
  pub next : ℕ
  pub row : ℕ

abbrev pub below_after : {O : Type 0} → Mark → (Command → O → O) → Command → O → O
below_after Passes next c o = next c o
below_after Unheard next c o = o
below_after Unanswered next c o = next c o

abbrev pub answer_through : {O : Type 0} → Mark → (Command → O → Option Reply) → Command → O → Option Reply
answer_through Passes answers c o = answers c o
answer_through Unheard answers c o = None
answer_through Unanswered answers c o = None

abbrev pub answers_over : {O : Type 0} → (Command → O → Option Reply) → Command → OwnOver O → Option Reply
answers_over answers c o = answer_through (mark_at o.marks o.next) answers c o.below

abbrev pub next_over : {O : Type 0} → (Command → O → O) → (Command → O → Option Reply) → Command → OwnOver O → OwnOver O
next_over next answers c o = record {
  below = below_after (mark_at o.marks o.next) next c o.below;
  marks = o.marks;
  next = turned o.next;
  row = row_by (answers_over answers c o) o.row;
}

abbrev pub shows_over : {O : Type 0} → (O → State) → OwnOver O → State
shows_over shows o = told_over (shows o.below) o.row
