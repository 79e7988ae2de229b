-- When two columns are found to be one.
use Rattle.std.proofs.Common.{◌≡◌, Bool, eqb, ◌&&◌, ◌++◌, drop, sym, ap, ◌∙◌}
use Rattle.std.proofs.lemmas.Bool.Decides.{Decides-eqb, Decides-and, Decides-like}
use Rattle.std.proofs.lemmas.List.{append_cancel_right}
use Rattle.std.specs.Bool.{Decides}
use Rattle.std.specs.Cmp.Lexicographic.{pointwise, pointwise_decides}
use Rattle.lg_model.specs.declared.column.Bucket.{Bucket}
use Rattle.lg_model.specs.declared.column.Key.{Key}
use Rattle.lg_model.specs.declared.column.Dims.{Dims}
use Rattle.lg_model.specs.Columns.{Column}
use Rattle.sketchlet_wire.specs.Spelling.{filled, zeros}

bucket_same : (a b : Bucket) → Decides (eqb a.bytes b.bytes && eqb a.delay b.delay) (a ≡ b)
bucket_same a b =
    Decides-like (eqb a.bytes b.bytes && eqb a.delay b.delay)
    (λ h i. record { bytes = h.0 i; delay = h.1 i })
    (λ e. (ap (λ (x : Bucket). x.bytes) e, ap (λ (x : Bucket). x.delay) e))
    (Decides-and (eqb a.bytes b.bytes) (eqb a.delay b.delay) (Decides-eqb a.bytes b.bytes) (Decides-eqb a.delay b.delay))

key_same : (a b : Key) → Decides (eqb a.switch b.switch && (eqb a.epoch b.epoch && eqb a.index b.index)) (a ≡ b)
key_same a b =
    Decides-like (eqb a.switch b.switch && (eqb a.epoch b.epoch && eqb a.index b.index))
    (λ h i. record { switch = h.0 i; epoch = h.1.0 i; index = h.1.1 i })
    (λ e. (ap (λ (x : Key). x.switch) e, (ap (λ (x : Key). x.epoch) e, ap (λ (x : Key). x.index) e)))
    (Decides-and (eqb a.switch b.switch) (eqb a.epoch b.epoch && eqb a.index b.index) (Decides-eqb a.switch b.switch)
    (Decides-and (eqb a.epoch b.epoch) (eqb a.index b.index) (Decides-eqb a.epoch b.epoch) (Decides-eqb a.index b.index)))

dims_same : (a b : Dims) → Decides (eqb a.rows b.rows && eqb a.width b.width) (a ≡ b)
dims_same a b =
    Decides-like (eqb a.rows b.rows && eqb a.width b.width)
    (λ h i. record { rows = h.0 i; width = h.1 i })
    (λ e. (ap (λ (x : Dims). x.rows) e, ap (λ (x : Dims). x.width) e))
    (Decides-and (eqb a.rows b.rows) (eqb a.width b.width) (Decides-eqb a.rows b.rows) (Decides-eqb a.width b.width))

-- the test that a derived comparison makes
abbrev eq_column : Column → Column → Bool
eq_column a b = (eqb a.key.switch b.key.switch && (eqb a.key.epoch b.key.epoch && eqb a.key.index b.key.index))
    && ((eqb a.dims.rows b.dims.rows && eqb a.dims.width b.dims.width)
    && pointwise (λ (x y : Bucket). eqb x.bytes y.bytes && eqb x.delay y.delay) (filled a.dims a.cells) (filled b.dims b.cells))

same_filled : (a b : Column) → a.dims ≡ b.dims → filled a.dims a.cells ≡ filled b.dims b.cells → a.cells ≡ b.cells
same_filled a b dims e = λ i. record {
  buckets = append_cancel_right a.cells.buckets b.cells.buckets (drop b.dims.rows zeros) (ap (λ (d : Dims). a.cells.buckets ++ drop d.rows zeros) (sym dims)
      ∙ e) i;
}

pub column_same : (a b : Column) → Decides (eq_column a b) (a ≡ b)
column_same a b =
    Decides-like (eq_column a b)
    (λ h i. record { key = h.0 i; dims = h.1.0 i; cells = same_filled a b h.1.0 h.1.1 i })
    (λ e. (ap (λ (c : Column). c.key) e, (ap (λ (c : Column). c.dims) e, ap (λ (c : Column). filled c.dims c.cells) e)))
    (Decides-and _ _ (key_same a.key b.key)
    (Decides-and _ _ (dims_same a.dims b.dims) (pointwise_decides bucket_same (filled a.dims a.cells) (filled b.dims b.cells))))
