-- Texts that grow, whether their bytes are kept or only counted.
use Rattle.std.specs.Prelude.{◌≡◌, ℕ, ◌-◌, List, ◌++◌, length, Result, OnOk, MatchResult}
use Rattle.text_out.specs.Appending.{AppendsText, AppendsOrNot}

-- What is kept of a text: its bytes, or only how many bytes more it may have until it is too long.
pub data Kind : Type 0 where
  Bytes : List ℕ → Kind
  Left : ℕ → Kind

-- What is kept with more text: the room shrinks by its bytes, down to 0.
abbrev pub grown : Kind → (text : List ℕ) → Kind
grown (Bytes bytes) text = Bytes (bytes ++ text)
grown (Left left) text = Left (left - length text)

-- The text is put; nothing is said where that fails.
abbrev pub Prints : {T E : Type 0} → Result T E → (before after : Kind) (text : List ℕ) → Type 0
Prints result before after text = OnOk result (after ≡ grown before text)

-- The text is put. Where that fails, what stood before is kept.
abbrev pub Puts : {T E : Type 0} → Result T E → (before after : Kind) (text : List ℕ) → Type 0
Puts result (Bytes before) (Bytes after) text = AppendsText result before after text
Puts result (Bytes before) (Left after) text = ⊥
Puts result (Left before) (Bytes after) text = ⊥
Puts result (Left before) (Left after) text = OnOk result (after ≡ before - length text)

-- The same, where a failure puts nothing.
abbrev pub PutsOrNot : {T E : Type 0} → Result T E → (before after : Kind) (text : List ℕ) → Type 0
PutsOrNot result (Bytes before) (Bytes after) text = AppendsOrNot result before after text
PutsOrNot result (Bytes before) (Left after) text = ⊥
PutsOrNot result (Left before) (Bytes after) text = ⊥
PutsOrNot result (Left before) (Left after) text = MatchResult result (λ _. after ≡ before - length text) (λ _. after ≡ before)
