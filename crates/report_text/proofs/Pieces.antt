-- A line written in pieces.
use Rattle.std.proofs.Common.{◌≡◌, ℕ, List, ◌++◌, refl, ap, ◌∙◌, append_assoc}

pub in_pieces : (old one two three word n mid text end : List ℕ) → one ≡ old ++ (word ++ n) → two ≡ one ++ (mid ++ text) → three ≡ two ++ end
    → three ≡ old ++ ((((word ++ n) ++ mid) ++ text) ++ end)
in_pieces old one two three word n mid text end a b c =
    c ∙ rw (b, a, append_assoc old (word ++ n) (mid ++ text), append_assoc old ((word ++ n) ++ (mid ++ text)) end, append_assoc (word ++ n) mid text) refl

-- one piece more
more : (old now next text piece : List ℕ) → now ≡ old ++ text → next ≡ now ++ piece → next ≡ old ++ (text ++ piece)
more old now next text piece before put = put ∙ ap (λ (x : List ℕ). x ++ piece) before ∙ append_assoc old text piece

pub in_five : (old one two three four five a b c d end : List ℕ) → one ≡ old ++ a → two ≡ one ++ b → three ≡ two ++ c → four ≡ three ++ d
    → five ≡ four ++ end → five ≡ old ++ ((((a ++ b) ++ c) ++ d) ++ end)
in_five old one two three four five a b c d end is-a is-b is-c is-d is-end =
    more old four five (((a ++ b) ++ c) ++ d) end
    (more old three four ((a ++ b) ++ c) d (more old two three (a ++ b) c (more old one two a b is-a is-b) is-c) is-d) is-end
