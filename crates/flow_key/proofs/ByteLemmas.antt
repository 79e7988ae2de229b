-- The bytes of a key give its fields back.
use Rattle.std.proofs.Common.{◌≡◌, ℕ, ◌<◌, ◌^◌, List, [], ◌∷◌, length, get_or, arith, refl}
use Rattle.std.specs.Int.{w16, from_be_bytes}
use Rattle.std.proofs.lemmas.Nat.{from_be_bytes-to_be_bytes_2}
use Rattle.flow_key.specs.declared.key.FlowKey.{FlowKey}
use Rattle.flow_key.specs.KeyText.{key_bytes, Fits}

-- the key whose fields stand in these bytes
abbrev pub key_in : List ℕ → FlowKey
key_in bs = record {
  src = get_or bs 0 0 ∷ get_or bs 1 0 ∷ get_or bs 2 0 ∷ get_or bs 3 0 ∷ [];
  dst = get_or bs 4 0 ∷ get_or bs 5 0 ∷ get_or bs 6 0 ∷ get_or bs 7 0 ∷ [];
  proto = get_or bs 8 0;
  sport = from_be_bytes w16 (get_or bs 9 0 ∷ get_or bs 10 0 ∷ []);
  dport = from_be_bytes w16 (get_or bs 11 0 ∷ get_or bs 12 0 ∷ []);
}

abbrev key_with : List ℕ → List ℕ → FlowKey → FlowKey
key_with s d k = record { src = s; dst = d; proto = k.proto; sport = k.sport; dport = k.dport }

with_both : (s d : List ℕ) (k : FlowKey) → length s ≡ 4 → length d ≡ 4 → k.sport < 2 ^ 16 → k.dport < 2 ^ 16 → key_in (key_bytes (key_with s d k)) ≡ key_with s d k
with_both [] d k hs hd ps pd = absurd (omega arith)
with_both (a ∷ []) d k hs hd ps pd = absurd (omega arith)
with_both (a ∷ b ∷ []) d k hs hd ps pd = absurd (omega arith)
with_both (a ∷ b ∷ c ∷ []) d k hs hd ps pd = absurd (omega arith)
with_both (a ∷ b ∷ c ∷ e ∷ f ∷ s) d k hs hd ps pd = absurd (omega arith)
with_both (a ∷ b ∷ c ∷ e ∷ []) [] k hs hd ps pd = absurd (omega arith)
with_both (a ∷ b ∷ c ∷ e ∷ []) (f ∷ []) k hs hd ps pd = absurd (omega arith)
with_both (a ∷ b ∷ c ∷ e ∷ []) (f ∷ g ∷ []) k hs hd ps pd = absurd (omega arith)
with_both (a ∷ b ∷ c ∷ e ∷ []) (f ∷ g ∷ h ∷ []) k hs hd ps pd = absurd (omega arith)
with_both (a ∷ b ∷ c ∷ e ∷ []) (f ∷ g ∷ h ∷ i ∷ j ∷ d) k hs hd ps pd = absurd (omega arith)
with_both (a ∷ b ∷ c ∷ e ∷ []) (f ∷ g ∷ h ∷ i ∷ []) k hs hd ps pd =
    rw (from_be_bytes-to_be_bytes_2 k.sport ps, from_be_bytes-to_be_bytes_2 k.dport pd) refl

pub key_back : (k : FlowKey) → Fits k → key_in (key_bytes k) ≡ k
key_back k h = with_both k.src k.dst k h.src.four h.dst.four h.sport h.dport
