-- A request and its reply, as it is kept.
use Rattle.std.specs.Prelude.{ℕ, List}
use Rattle.pg_journal.specs.Records.{Kept}
use Rattle.pg_journal.specs.declared.digest.Reply.{Reply}

abbrev pub kept : List ℕ → List ℕ → Reply → Kept
kept tenant body reply = record { tenant = tenant; body = body; reply_length = reply.length; reply_digest = reply.digest }
