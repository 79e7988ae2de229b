use Rattle.std.specs.Prelude.{◌≡◌, ◌<◌, [], List, All, length, filter, true}
use Rattle.std.specs.List.{list_any}
use Rattle.std.specs.Vec.{vec_capacity}
use Rattle.std.proofs.Common.{sym, ap, ◌∙◌, subst, arith}
use Rattle.lg_model.specs.Columns.{Column}
use Rattle.sketchlet_wire.specs.Uploads.{same_column_key}
use Rattle.column_book.specs.declared.head.Row.{Row}
use Rattle.column_book.specs.Entries.{BookState, records, content}
use Rattle.column_book.specs.declared.entry.Entry.{Entry}
use Rattle.column_book.specs.Applying.{new_columns, checked, IsAddable}
use Rattle.column_book.specs.Kept.{IsGrown, is_free}
use Rattle.column_book.proofs.Applying.{ok_and, law}
use Rattle.column_book.proofs.Cuts.{few_rows}
use Rattle.column_book.proofs.Stored.{IsStorable, blocks_made, keys_room, rows_room, kept_stored, entries_stored}
use Rattle.column_book.proofs.book.Book.add.Goals as goal

pub overflow_cast-at : goal.overflow_cast-at
overflow_cast-at c =
    let b = c.self.inside in
    let few = few_rows 0 (length b.keys.items) b.rows.items c.self.invariant.cut in
    omega (arith, few)

pub put_new-count-requires-clause-made : goal.put_new-count-requires-clause-made
put_new-count-requires-clause-made c =
    let b = c.self.inside in
    let u = c.args.upload.now in
    let h : IsStorable b.shape b.room b.blocks.map.entries b.keys.items b.rows.items b.ready.items (vec_capacity b.keys) (vec_capacity b.rows) u = record {
      kept = c.self.invariant;
      upload = c.columns.ensures.full;
      fits = subst (λ (s : BookState). IsAddable s.shape s.room (records s.entries) u) (sym c.self.view_is) c.requires.fits;
      is_ready = subst (λ (s : BookState). All (λ (x : Column). list_any (same_column_key x.key) s.ready ≡ true) (new_columns (content s.entries) u.columns)) (sym c.self.view_is) c.requires.ready;
    } in
    rw c.columns.ensures.value (blocks_made b.shape b.room b.blocks.map.entries b.keys.items b.rows.items b.ready.items (vec_capacity b.keys) (vec_capacity b.rows) u h)

pub put_new-count-requires-clause-room : goal.put_new-count-requires-clause-room
put_new-count-requires-clause-room c =
    let b = c.self.inside in
    let u = c.args.upload.now in
    let h : IsStorable b.shape b.room b.blocks.map.entries b.keys.items b.rows.items b.ready.items (vec_capacity b.keys) (vec_capacity b.rows) u = record {
      kept = c.self.invariant;
      upload = c.columns.ensures.full;
      fits = subst (λ (s : BookState). IsAddable s.shape s.room (records s.entries) u) (sym c.self.view_is) c.requires.fits;
      is_ready = subst (λ (s : BookState). All (λ (x : Column). list_any (same_column_key x.key) s.ready ≡ true) (new_columns (content s.entries) u.columns)) (sym c.self.view_is) c.requires.ready;
    } in
    rw c.columns.ensures.value (keys_room b.shape b.room b.blocks.map.entries b.keys.items b.rows.items b.ready.items (vec_capacity b.keys) (vec_capacity b.rows) u h)

pub push_reserved-requires : goal.push_reserved-requires
push_reserved-requires c =
    let b = c.self.inside in
    let u = c.args.upload.now in
    let h : IsStorable b.shape b.room b.blocks.map.entries b.keys.items b.rows.items b.ready.items (vec_capacity b.keys) (vec_capacity b.rows) u = record {
      kept = c.self.invariant;
      upload = c.columns.ensures.full;
      fits = subst (λ (s : BookState). IsAddable s.shape s.room (records s.entries) u) (sym c.self.view_is) c.requires.fits;
      is_ready = subst (λ (s : BookState). All (λ (x : Column). list_any (same_column_key x.key) s.ready ≡ true) (new_columns (content s.entries) u.columns)) (sym c.self.view_is) c.requires.ready;
    } in
    let room = rows_room b.shape b.room b.blocks.map.entries b.keys.items b.rows.items b.ready.items (vec_capacity b.keys) (vec_capacity b.rows) u h in
    omega (arith, room)

pub invariant_of-self : goal.invariant_of-self
invariant_of-self c =
    let b = c.self.inside in
    let u = c.args.upload.now in
    let es = b.blocks.map.entries in
    let es' = c.put_new-count.new.blocks.map.entries in
    let keys' = c.put_new-count.new.keys.items in
    let h : IsStorable b.shape b.room es b.keys.items b.rows.items b.ready.items (vec_capacity b.keys) (vec_capacity b.rows) u = record {
      kept = c.self.invariant;
      upload = c.columns.ensures.full;
      fits = subst (λ (s : BookState). IsAddable s.shape s.room (records s.entries) u) (sym c.self.view_is) c.requires.fits;
      is_ready = subst (λ (s : BookState). All (λ (x : Column). list_any (same_column_key x.key) s.ready ≡ true) (new_columns (content s.entries) u.columns)) (sym c.self.view_is) c.requires.ready;
    } in
    let r : Row = record { head = record { pass = c.args.pass; host = c.host.result; seq = c.seq.result; count = c.put_new-count.result }; first = c.len-first.result } in
    let grown = subst (λ (cs : List Column). IsGrown es b.keys.items es' keys' (filter (is_free es) cs)) c.columns.ensures.value c.put_new-count.ensures.grown in
    let first : c.len-first.result ≡ length b.keys.items = omega arith in
    let count = c.put_new-count.ensures.count ∙ ap (λ (cs : List Column). length (filter (is_free es) cs)) c.columns.ensures.value in
    let kept = kept_stored b.shape b.room es b.keys.items b.rows.items b.ready.items (vec_capacity b.keys) (vec_capacity b.rows) u h es' keys' r grown first count c.put_new-count.ensures.few c.clear.new.self.items (vec_capacity c.push_reserved.new.self) c.clear.ensures.items in
    rw (c.push_reserved.ensures.items, c.put_new-count.ensures.capacity) kept

pub returns-clause-added : goal.returns-clause-added
returns-clause-added c =
    let b = c.self.inside in
    let u = c.args.upload.now in
    let es = b.blocks.map.entries in
    let es' = c.put_new-count.new.blocks.map.entries in
    let keys' = c.put_new-count.new.keys.items in
    let h : IsStorable b.shape b.room es b.keys.items b.rows.items b.ready.items (vec_capacity b.keys) (vec_capacity b.rows) u = record {
      kept = c.self.invariant;
      upload = c.columns.ensures.full;
      fits = subst (λ (s : BookState). IsAddable s.shape s.room (records s.entries) u) (sym c.self.view_is) c.requires.fits;
      is_ready = subst (λ (s : BookState). All (λ (x : Column). list_any (same_column_key x.key) s.ready ≡ true) (new_columns (content s.entries) u.columns)) (sym c.self.view_is) c.requires.ready;
    } in
    let r : Row = record { head = record { pass = c.args.pass; host = c.host.result; seq = c.seq.result; count = c.put_new-count.result }; first = c.len-first.result } in
    let grown = subst (λ (cs : List Column). IsGrown es b.keys.items es' keys' (filter (is_free es) cs)) c.columns.ensures.value c.put_new-count.ensures.grown in
    let first : c.len-first.result ≡ length b.keys.items = omega arith in
    let count = c.put_new-count.ensures.count ∙ ap (λ (cs : List Column). length (filter (is_free es) cs)) c.columns.ensures.value in
    let entries = entries_stored b.shape b.room es b.keys.items b.rows.items b.ready.items (vec_capacity b.keys) (vec_capacity b.rows) u h es' keys' r grown first count c.put_new-count.ensures.few c.host.ensures c.seq.ensures in
    rw (c.push_reserved.ensures.items, c.clear.ensures.items, ← c.self.view_is) (ap (λ (es : List Entry). record { shape = b.shape; room = b.room; entries = es; ready = [] }) entries)

-- what a check and an addition do is what an upload does
pub returns-clause-applied : goal.returns-clause-applied
returns-clause-applied c =
    let b = c.args.self.now in
    let u = c.args.upload.now in
    let r = ok_and (checked b.shape b.room (records b.entries) u) (λ k. 0 < k) c.requires.fits in
    let applied = (law b.shape b.room b.entries c.args.pass u).stored r.0 r.1.1 r.1.0 in
    ap (λ (s : BookState). s.entries) (returns-clause-added c) ∙ sym applied.1
