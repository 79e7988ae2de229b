-- The one text of a key, its 13 bytes, and the reading of the text from left to right.
use Rattle.std.specs.Prelude.{◌≡◌, ℕ, ◌<◌, ◌^◌, List, [], ◌∷◌, ◌++◌, map, length, All, Option, Some, None}
use Rattle.std.specs.List.{join_with_byte}
use Rattle.std.specs.Int.{w16, to_be_bytes}
use Rattle.std.specs.Fmt.{decimal}
use Rattle.flow_key.specs.declared.key.FlowKey.{FlowKey}
use Rattle.flow_key.specs.Words.{words_at, number_to}

-- The text of an address: its numbers in decimal with a dot between each two, as a.b.c.d.
abbrev pub dotted : List ℕ → List ℕ
dotted ns = join_with_byte 46 (map decimal ns)

-- The text of a key: source, destination, protocol, source port and destination port, with one space between each two.
abbrev pub key_text : FlowKey → List ℕ
key_text k = join_with_byte 32 (dotted k.src ∷ dotted k.dst ∷ decimal k.proto ∷ decimal k.sport ∷ decimal k.dport ∷ [])

-- The 13 bytes of a key: source, destination, protocol, source port and destination port, the ports high byte first.
abbrev pub key_bytes : FlowKey → List ℕ
key_bytes k = k.src ++ (k.dst ++ (k.proto ∷ (to_be_bytes w16 k.sport ++ to_be_bytes w16 k.dport)))

-- The numbers of an address: four, each from 0 to 255.
pub record IsAddress (ns : List ℕ) : Type 0 where
  pub four : length ns ≡ 4
  pub bytes : All (λ n. n < 256) ns

-- The numbers of a key are in the ranges of their fields. In laws over all keys a number may else be of any size.
pub record Fits (k : FlowKey) : Type 0 where
  pub src : IsAddress k.src
  pub dst : IsAddress k.dst
  pub proto : k.proto < 256
  pub sport : k.sport < 2 ^ 16
  pub dport : k.dport < 2 ^ 16

-- ---- reading, from left to right

-- Goes on with what was read, if something was.
infixl 10 ◌>>=◌
abbrev pub ◌>>=◌ : {A B : Type 0} → Option A → (A → Option B) → Option B
(Some x) >>= f = f x
None >>= f = None

-- The number from 0 to `most` that the first word writes, and the words after it.
unfoldable pub number_word : ℕ → List (List ℕ) → Option (ℕ × List (List ℕ))
number_word most [] = None
number_word most (w ∷ ws) = number_to most w >>= λ n. Some (n, ws)

-- Reads the end: no word is left.
abbrev pub no_more : List (List ℕ) → Option (Unit {0})
no_more [] = Some tt
no_more (w ∷ ws) = None

-- The four numbers of the address that a word writes: numbers from 0 to 255 between single dots.
unfoldable pub address_of : List ℕ → Option (List ℕ)
address_of word = do
  a ← number_word 255 (words_at 46 word)
  b ← number_word 255 a.1
  c ← number_word 255 b.1
  d ← number_word 255 c.1
  end ← no_more d.1
  Some (a.0 ∷ b.0 ∷ c.0 ∷ d.0 ∷ [])

-- The address that the first word writes, and the words after it.
unfoldable pub address_word : List (List ℕ) → Option (List ℕ × List (List ℕ))
address_word [] = None
address_word (w ∷ ws) = address_of w >>= λ ns. Some (ns, ws)

-- The key that the first five words write, and the words after them.
unfoldable pub key_words : List (List ℕ) → Option (FlowKey × List (List ℕ))
key_words ws = do
  src ← address_word ws
  dst ← address_word src.1
  proto ← number_word 255 dst.1
  sport ← number_word 65535 proto.1
  dport ← number_word 65535 sport.1
  Some (record { src = src.0; dst = dst.0; proto = proto.0; sport = sport.0; dport = dport.0 }, dport.1)

-- The key that a text of five words between single spaces writes.
unfoldable pub key_of : List ℕ → Option FlowKey
key_of text = do
  key ← key_words (words_at 32 text)
  end ← no_more key.1
  Some key.0
