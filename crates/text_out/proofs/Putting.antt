-- Texts put one after the other.
use Rattle.std.specs.Prelude.{◌≡◌, ℕ, ◌+◌, ◌-◌, List, [], ◌++◌, length, Result, Ok, Err, OnOk}
use Rattle.std.proofs.Common.{refl, sym, ap, ◌∙◌, append_assoc, append-nil, arith, length-append}
use Rattle.text_out.specs.Growing.{Kind, Bytes, Left, grown, Puts, PutsOrNot}
use Rattle.text_out.specs.Appending.{Keeps}
use Rattle.text_out.proofs.Keeping.{keeps_itself, keeps_after}

-- More text after a text.
pub grown_on : (k : Kind) (one two : List ℕ) → grown (grown k one) two ≡ grown k (one ++ two)
grown_on (Bytes bytes) one two = ap (λ (all : List ℕ). Bytes all) (append_assoc bytes one two)
grown_on (Left left) one two = ap (λ (n : ℕ). Left n) (omega (arith, length-append one two))

pub grown_none : (k : Kind) → k ≡ grown k []
grown_none (Bytes bytes) = ap (λ (all : List ℕ). Bytes all) (sym (append-nil bytes))
grown_none (Left left) = ap (λ (n : ℕ). Left n) (omega arith)

-- What is put is put.
pub put_is : {T E : Type 0} (r : Result T E) (before after : Kind) (text : List ℕ) → Puts r before after text → OnOk r (after ≡ grown before text)
put_is (Ok x) (Bytes before) (Bytes after) text puts = ap (λ (all : List ℕ). Bytes all) puts
put_is (Ok x) (Left before) (Left after) text puts = ap (λ (n : ℕ). Left n) puts
put_is (Ok x) (Bytes before) (Left after) text puts = absurd puts
put_is (Ok x) (Left before) (Bytes after) text puts = absurd puts
put_is (Err e) before after text puts = tt

pub put_or_not_is : {T E : Type 0} (r : Result T E) (before after : Kind) (text : List ℕ) → PutsOrNot r before after text → OnOk r (after ≡ grown before text)
put_or_not_is (Ok x) (Bytes before) (Bytes after) text puts = ap (λ (all : List ℕ). Bytes all) puts
put_or_not_is (Ok x) (Left before) (Left after) text puts = ap (λ (n : ℕ). Left n) puts
put_or_not_is (Ok x) (Bytes before) (Left after) text puts = absurd puts
put_or_not_is (Ok x) (Left before) (Bytes after) text puts = absurd puts
put_or_not_is (Err e) before after text puts = tt

-- Bytes that have grown.
bytes_in : Kind → List ℕ
bytes_in (Bytes bytes) = bytes
bytes_in (Left left) = []

pub bytes_are : (before after text : List ℕ) → Bytes after ≡ grown (Bytes before) text → after ≡ before ++ text
unfolding bytes_in
bytes_are before after text is = ap bytes_in is

-- Room that has shrunk.
room_in : Kind → ℕ
room_in (Bytes bytes) = 0
room_in (Left left) = left

pub room_is : (before after : ℕ) (text : List ℕ) → Left after ≡ grown (Left before) text → after ≡ before - length text
unfolding room_in
room_is before after text is = ap room_in is
