-- What a call that appends does to the bytes of a list.
use Rattle.std.specs.Prelude.{◌≡◌, ℕ, List, ◌++◌, length, take, Result, MatchResult}

-- What stood before still stands, at the front; only bytes after it came in.
pub record Keeps (before after : List ℕ) : Type 0 where
  pub front : take (length before) after ≡ before

-- The text is appended. Where that fails, what stood before is kept.
abbrev pub AppendsText : {T E : Type 0} → Result T E → (before after text : List ℕ) → Type 0
AppendsText result before after text = MatchResult result (λ _. after ≡ before ++ text) (λ _. Keeps before after)

-- The same, where a failure appends nothing.
abbrev pub AppendsOrNot : {T E : Type 0} → Result T E → (before after text : List ℕ) → Type 0
AppendsOrNot result before after text = MatchResult result (λ _. after ≡ before ++ text) (λ _. after ≡ before)
