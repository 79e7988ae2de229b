-- The keys of packed columns, and whether a column can join others by them.
use Rattle.std.specs.Prelude.{◌≡◌, ℕ, ◌≤◌, List, [], ◌∷◌, ◌++◌, Bool, ◌&&◌, ◌||◌, not, nat_lt, length, map, drop, Result, Ok, Err, take, ◌-◌}
use Rattle.std.specs.List.{list_any}
use Rattle.std.proofs.Common.{refl, sym, ap, ◌∙◌, arith, append_assoc}
use Rattle.std.proofs.lemmas.List.{drop_at, length-map, take_all, length-drop}
use Rattle.lg_model.specs.declared.column.Key.{Key}
use Rattle.lg_model.specs.declared.limits.TheConstants.{MOST_UPLOAD_COLUMNS}
use Rattle.lg_model.specs.Columns.{Column}
use Rattle.sketchlet_wire.specs.declared.packed.Packed.{Packed}
use Rattle.sketchlet_wire.specs.Spelling.{spelling, marks, dims_bytes, column_key_bytes, cells_bytes}
use Rattle.sketchlet_wire.specs.Packing.{IsPacked, packed_bytes}
use Rattle.sketchlet_wire.specs.Reading.{key_at}
use Rattle.sketchlet_wire.specs.Uploads.{same_column_key, holds_key}
use Rattle.sketchlet_wire.proofs.Columns.{spelling_length}
use Rattle.sketchlet_wire.proofs.Fields.{key_again}
use Rattle.host_collect.specs.Cutting.{can_join}

front_len : (c : Column) → length (marks ++ dims_bytes c.dims) ≡ 6
unfolding marks dims_bytes
front_len c = refl

key_front : (c : Column) → drop 6 (spelling c) ≡ column_key_bytes c.key ++ cells_bytes c.cells
key_front c =
    ap (drop 6) (sym (append_assoc marks (dims_bytes c.dims) (column_key_bytes c.key ++ cells_bytes c.cells)))
    ∙ drop_at (marks ++ dims_bytes c.dims) (column_key_bytes c.key ++ cells_bytes c.cells) 6 (front_len c)

-- The key stands after the first six bytes.
pub key_is : {E : Type 0} (missing : E) (p : Packed) (c : Column) (bytes : List ℕ) → IsPacked p c → bytes ≡ packed_bytes p
    → key_at missing (take (length bytes - 6) (drop 6 bytes)) ≡ Ok (c.key, cells_bytes c.cells)
key_is missing p c bytes is same =
    ap (key_at missing) (take_all (length bytes - 6) (drop 6 bytes) (omega (arith, length-drop 6 bytes)) ∙ ap (drop 6) (same ∙ is.bytes) ∙ key_front c)
    ∙ key_again missing c.key (cells_bytes c.cells) (record {
      switch = is.column.switch;
      epoch = is.column.epoch;
      index =
          omega (arith, is.column.index, is.column.small_width);
    })

pub long : (p : Packed) (c : Column) (bytes : List ℕ) → IsPacked p c → bytes ≡ packed_bytes p → 6 ≤ length bytes
long p c bytes is same = omega (arith, ap length (same ∙ is.bytes), spelling_length c is.column)

pub no_fault : {E : Type 0} {X : Type 0} (e : E) (x : X) (r : Result X E) → r ≡ Ok x → r ≡ Err e → ⊥
no_fault e x r a b = absurd (let h : Ok x ≡ Err e = sym a ∙ b in cc)

key_or : {E : Type 0} → Key → Result (Key × List ℕ) E → Key
key_or d (Ok x) = x.0
key_or d (Err e) = d

pub same_key : {E : Type 0} (a b : Key) (x y : List ℕ) (r : Result (Key × List ℕ) E) → r ≡ Ok (a, x) → r ≡ Ok (b, y) → a ≡ b
unfolding key_or
same_key a b x y r h k = ap (key_or a) (sym h ∙ k)

-- A key stands among the keys of columns where one of the columns has it.
keys_held : (key : Key) (cs : List Column) → list_any (λ k. same_column_key k key) (map (λ (c : Column). c.key) cs) ≡ holds_key key cs
keys_held key [] = refl
keys_held key (c ∷ cs) = ap (λ (b : Bool). same_column_key c.key key || b) (keys_held key cs)

pub can_by_keys : (held : List Key) (key : Key) (cs : List Column) (c : Column) → held ≡ map (λ (x : Column). x.key) cs → key ≡ c.key
    → (nat_lt (length held) MOST_UPLOAD_COLUMNS && not (list_any (λ k. same_column_key k key) held)) ≡ can_join cs c
can_by_keys held key cs c held_is key_is_c =
    ap (λ (n : ℕ). nat_lt n MOST_UPLOAD_COLUMNS && not (list_any (λ k. same_column_key k key) held)) (ap length held_is ∙ length-map cs (λ (x : Column). x.key))
    ∙ ap (λ (ks : List Key). nat_lt (length cs) MOST_UPLOAD_COLUMNS && not (list_any (λ k. same_column_key k key) ks)) held_is
    ∙ ap (λ (k : Key). nat_lt (length cs) MOST_UPLOAD_COLUMNS && not (list_any (λ x. same_column_key x k) (map (λ (x : Column). x.key) cs))) key_is_c
    ∙ ap (λ (b : Bool). nat_lt (length cs) MOST_UPLOAD_COLUMNS && not b) (keys_held c.key cs)
