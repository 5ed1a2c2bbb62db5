-- A run of the program, and what it writes.
use Rattle.std.specs.Prelude.{◌≡◌, ◌⊎◌, ℕ, List, Option, take}
use Rattle.std.specs.Io.KnownBytes.{Appends, Keeps}
use Rattle.argon2_commands.specs.Answer.{IsAnswer, MayBeError, NeedsNoInput, ReadsUpTo, answer_status, lines_of, most_read}
use Rattle.argon2_commands.specs.Words.{AreWords, IsCommand, IsNoCommand}
use Rattle.argon2_standard.specs.declared.error.Error.{Error}
use Rattle.argon2_commands.specs.declared.answer.Answer.{Answer}
use Rattle.argon2_commands.specs.declared.command.Command.{Command}

-- ---- what was written to a writer that may fail

-- the written bytes, if they are known, grew by the beginning of `bytes`: all of it, some or none
abbrev pub AppendsFront : Option (List ℕ) → Option (List ℕ) → List ℕ → Type 0
AppendsFront before after bytes = (count : ℕ) × Appends before after (take count bytes)

-- ---- what a run does

-- the status is that of the command's answer, whose lines were written. If known, `input` is the
-- input before the run, and `before` and `after` are the output before and after it
pub record Answered (words : List (List ℕ)) (input before after : Option (List ℕ)) (status : ℕ) : Type 0 where
  pub command : Command
  pub answer : Answer
  pub is_command : IsCommand words command
  pub is_answer : IsAnswer command input answer
  pub is_status : status ≡ answer_status answer
  pub is_written : Appends before after (lines_of answer)

-- the words' command has an answer
pub record HasAnswer (words : List (List ℕ)) (input : Option (List ℕ)) : Type 0 where
  pub command : Command
  pub answer : Answer
  pub is_command : IsCommand words command
  pub is_answer : IsAnswer command input answer

-- the words' command may fail with this error, judged by the input's bytes if they are known
pub record MayFailWith (words : List (List ℕ)) (input : Option (List ℕ)) (error : Error) : Type 0 where
  pub command : Command
  pub is_command : IsCommand words command
  pub may_fail : MayBeError command input error

-- the words are a command that needs no input, or no command
abbrev pub NeedNoInput : List (List ℕ) → Type 0
NeedNoInput words = (command : Command) → IsCommand words command → NeedsNoInput command

-- the words are those of a command, and no more bytes of an input were read than this command can need
pub record ReadsFor (words : List (List ℕ)) (before after : Option (List ℕ)) : Type 0 where
  pub command : Command
  pub is_command : IsCommand words command
  pub stops : ReadsUpTo (most_read command) before after

-- the same, or the words are no command and nothing was read
abbrev pub Reads : List (List ℕ) → Option (List ℕ) → Option (List ℕ) → Type 0
Reads words before after = ReadsFor words before after ⊎ (IsNoCommand words × Keeps before after)

-- the words' command may fail, and nothing was written; or it has an answer, and the output lacked
-- memory for all of it. The status is the same in both cases; the fault differs
abbrev pub IsShortOrFails : List (List ℕ) → Option (List ℕ) → Option (List ℕ) → Option (List ℕ) → Type 0
IsShortOrFails words input before after =
    (((error : Error) × MayFailWith words input error) × Keeps before after) ⊎ HasAnswer words input

-- a front of the lines of the command's answer was written, and nothing else
pub record WritesFront (words : List (List ℕ)) (input before after : Option (List ℕ)) : Type 0 where
  pub command : Command
  pub answer : Answer
  pub is_command : IsCommand words command
  pub is_answer : IsAnswer command input answer
  pub is_front : AppendsFront before after (lines_of answer)

-- the same, or nothing was written
abbrev pub WritesAnswer : List (List ℕ) → Option (List ℕ) → Option (List ℕ) → Option (List ℕ) → Type 0
WritesAnswer words input before after = Keeps before after ⊎ WritesFront words input before after

-- P holds of the words of the command line if its arguments are known, and otherwise of some words
abbrev pub OfWords : Option (List (List ℕ)) → (List (List ℕ) → Type 0) → Type 0
OfWords known P = (words : List (List ℕ)) × AreWords known words × P words
