-- What the words of the command line ask for.
use Rattle.std.specs.Prelude.{ℕ, ◌^◌, Bool, if◌then◌else◌, ◌&&◌, nat_lt, List, [], ◌∷◌, length, codes, bytes_eq, Option, Some, None}
use Rattle.std.specs.Str.{all_ascii_digits}
use Rattle.std.specs.Str.Parse.{digits_value}
use Rattle.graphd.specs.declared.command.Command.{Command}
use Rattle.graphd.specs.declared.command.Command.TheVariants.{Run, Serve}

-- to serve standard input, or so many connections at a port, by the configuration at a path
pub data Asked : Type 0 where
  run : (config : List ℕ) → Asked
  serve : (config : List ℕ) → (port count : ℕ) → Asked

-- one or more decimal digits and nothing else: no sign, and zeros may lead
abbrev pub is_numeral : List ℕ → Bool
is_numeral text = nat_lt 0 (length text) && all_ascii_digits text

-- the number that the digits write, if it is below the limit
abbrev pub number_in : (limit : ℕ) → List ℕ → Option ℕ
number_in limit text = if is_numeral text && nat_lt (digits_value 10 text) limit then Some (digits_value 10 text) else None

abbrev pub serve_at : (config : List ℕ) → Option ℕ → Option ℕ → Option Asked
serve_at config (Some port) (Some count) = Some (serve config port count)
serve_at config port count = None

-- the words behind the program's name; all others are no command
abbrev pub command_in : List (List ℕ) → Option Asked
command_in (verb ∷ config ∷ []) = if bytes_eq verb (codes "run") then Some (run config) else None
command_in (verb ∷ config ∷ port ∷ count ∷ []) =
    if bytes_eq verb (codes "serve") then serve_at config (number_in (2 ^ 16) port) (number_in (2 ^ 64) count) else None
command_in words = None

abbrev pub command_view : Command → Asked
command_view (Run config) = run config.now
command_view (Serve config port count) = serve config.now port count
