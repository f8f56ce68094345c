-- A procedure: which commands are sent, and how it goes on by what they are answered.
use Rattle.std.specs.Prelude.{ℕ, zero, suc, Bool, true, false, List, [], ◌∷◌}
use Rattle.line.specs.declared.command.Command.{Command}
use Rattle.line.specs.declared.command.Command.TheVariants.{Read, Write}
use Rattle.line.specs.declared.command.PollAnswer.{PollAnswer}
use Rattle.line.specs.declared.command.PollAnswer.TheVariants.{Clean}
use Rattle.line.specs.declared.command.Reply.{Reply}
use Rattle.line.specs.declared.command.Reply.TheVariants.{Done, Byte, Polled}

-- `sends` sends a command until it is answered, 32 times at most, with nothing in between; `once` sends it
-- one time, whatever becomes of it; `thens` goes on by what came back; `gives` sends nothing.
pub data Procedure : Type 0 → Type 1 where
  gives : {A : Type 0} → A → Procedure A
  sends : Command → Procedure Reply
  once : Command → Procedure (Unit {0})
  thens : {A B : Type 0} → Procedure A → (A → Procedure B) → Procedure B

abbrev pub either : {A : Type 0} → Bool → Procedure A → Procedure A → Procedure A
either true p q = p
either false p q = q

-- what a Read and a Poll were answered; no line answers them by anything else
abbrev pub byte_of : Reply → ℕ
byte_of Done = 0
byte_of (Byte b) = b
byte_of (Polled p) = 0

abbrev pub said : Reply → PollAnswer
said Done = Clean
said (Byte b) = Clean
said (Polled p) = p

abbrev pub reads : ℕ → Procedure ℕ
reads a = thens (sends (Read a)) (λ y. gives (byte_of y))

abbrev pub writes : ℕ → ℕ → Procedure (Unit {0})
writes a v = thens (sends (Write a v)) (λ _. gives tt)

-- the bytes at a row of addresses, read in its order
abbrev pub reads_row : List ℕ → Procedure (List ℕ)
reads_row [] = gives []
reads_row (a ∷ ps) = thens (reads a) (λ b. thens (reads_row ps) (λ bs. gives (b ∷ bs)))

-- bytes written at a row of addresses, in its order
abbrev pub writes_row : List ℕ → List ℕ → Procedure (Unit {0})
writes_row [] bs = gives tt
writes_row (a ∷ ps) [] = gives tt
writes_row (a ∷ ps) (b ∷ bs) = thens (writes a b) (λ _. writes_row ps bs)

-- so many addresses from one on, rising
unfoldable pub rising : ℕ → ℕ → List ℕ
rising a zero = []
rising a (suc n) = a ∷ rising (suc a) n
