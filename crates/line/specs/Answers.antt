-- The byte that an answer holds, if it holds one.
use Rattle.std.specs.Prelude.{ℕ, Some, None, Option}
use Rattle.line.specs.declared.command.Reply.{Reply}
use Rattle.line.specs.declared.command.Reply.TheVariants.{Done, Byte, Polled}

abbrev pub byte_in : Option Reply → Option ℕ
byte_in None = None
byte_in (Some Done) = None
byte_in (Some (Byte b)) = Some b
byte_in (Some (Polled p)) = None
