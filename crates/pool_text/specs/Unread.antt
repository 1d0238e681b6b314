-- What the reader answers, by the number and the line that the documents and C know.
use Rattle.std.specs.Prelude.{ℕ, Result, Ok, Err}
use Rattle.lists.specs.Numbered.{refusal_number}
use Rattle.pool_text.specs.declared.Unread.{Unread}
use Rattle.pool_text.specs.declared.Unread.TheVariants.{Refused, WrongLine}

-- 0 where the text is read
abbrev pub unread_number : {A : Type 0} → Result A Unread → ℕ
unread_number (Ok x) = 0
unread_number (Err (Refused refusal)) = refusal_number refusal
unread_number (Err (WrongLine line)) = 12

-- 0 where no line is wrong
abbrev pub unread_line : {A : Type 0} → Result A Unread → ℕ
unread_line (Ok x) = 0
unread_line (Err (Refused refusal)) = 0
unread_line (Err (WrongLine line)) = line

-- of the lines alone
abbrev pub wrong_number : {A : Type 0} → Result A ℕ → ℕ
wrong_number (Ok x) = 0
wrong_number (Err line) = line
