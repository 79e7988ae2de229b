-- Keys and places, by computation. The seeded numbers come from a program of its own, in another language.
use Rattle.std.specs.Prelude.{◌≡◌, ℕ, List, [], ◌∷◌, map, replicate, true, false, Some, None, codes}
use Rattle.std.specs.List.{range_with_len}
use Rattle.flow_key.specs.declared.key.FlowKey.{FlowKey}
use Rattle.flow_key.specs.KeyText.{key_bytes, key_text, key_of}
use Rattle.lg_model.specs.declared.scenario.Hash.TheVariants.{Ports, Seed}
use Rattle.lg_model.specs.Placing.{same_key, hashed, places_of}

abbrev pub key : (src dst : List ℕ) → (proto sport dport : ℕ) → FlowKey
key src dst proto sport dport = record { src = src; dst = dst; proto = proto; sport = sport; dport = dport }

-- No two of its bytes are the same.
abbrev pub counting : FlowKey
counting = key (1 ∷ 2 ∷ 3 ∷ 4 ∷ []) (5 ∷ 6 ∷ 7 ∷ 8 ∷ []) 9 2571 3085

abbrev pub plain : FlowKey
plain = key (10 ∷ 0 ∷ 0 ∷ 1 ∷ []) (10 ∷ 0 ∷ 0 ∷ 2 ∷ []) 6 2 1

pub record WorkedHashes : Type 0 where
  -- each field in its place, and the ports high byte first
  pub bytes : key_bytes counting ≡ range_with_len 1 13
  pub text : key_text counting ≡ codes "1.2.3.4 5.6.7.8 9 2571 3085"
  pub read : key_of (codes "1.2.3.4 5.6.7.8 9 2571 3085") ≡ Some counting
  pub last_ones : key_of (codes "255.0.0.0 0.0.0.255 255 65535 65535")
      ≡ Some (key (255 ∷ 0 ∷ 0 ∷ 0 ∷ []) (0 ∷ 0 ∷ 0 ∷ 255 ∷ []) 255 65535 65535)
  -- one more than each last value, a leading zero, a space too many
  pub past_last : map key_of (
      codes "256.0.0.0 0.0.0.255 255 65535 65535" ∷ codes "255.0.0.0 0.0.0.256 255 65535 65535"
      ∷ codes "255.0.0.0 0.0.0.255 256 65535 65535" ∷ codes "255.0.0.0 0.0.0.255 255 65536 65535"
      ∷ codes "255.0.0.0 0.0.0.255 255 65535 65536" ∷ codes "1.2.3.4 5.6.7.8 09 2571 3085"
      ∷ codes "1.2.3.4  5.6.7.8 9 2571 3085" ∷ codes "1.2.3 5.6.7.8 9 2571 3085" ∷ [])
      ≡ replicate 8 None
  -- keys that differ in one field are two
  pub one : same_key counting counting ≡ true
  pub others : map (same_key counting) (
      record counting { src = counting.dst } ∷ record counting { dst = counting.src }
      ∷ record counting { proto = 6 } ∷ record counting { sport = 1 } ∷ record counting { dport = 1 } ∷ [])
      ≡ replicate 5 false
  -- row i adds the destination port i times, from row 0 on
  pub by_ports : map (hashed Ports counting) (range_with_len 0 3) ≡ 2571 ∷ 5656 ∷ 8741 ∷ []
  -- the order of the bytes and of the steps, the number of the row, and the upper half
  pub seeded : map (hashed (Seed 7) plain) (range_with_len 0 4)
      ≡ 354121455 ∷ 2848613039 ∷ 1048137327 ∷ 3542628911 ∷ []
  -- the last seed: the sum with the row's number passes 2^64
  pub last_seed : map (hashed (Seed 18446744073709551615) counting) (range_with_len 0 2) ≡ 1782662962 ∷ 4277154546 ∷ []
  pub places : places_of (record { rows = 3; width = 1000; hash = Seed 7 }) plain ≡ 455 ∷ 39 ∷ 327 ∷ []
  pub port_places : places_of (record { rows = 3; width = 1000; hash = Ports }) counting ≡ 571 ∷ 656 ∷ 741 ∷ []
