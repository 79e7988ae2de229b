use Rattle.std.specs.Prelude.{◌≡◌, ◌∷◌, ◌<◌, ◌≤◌, ℕ, None, is_some, true}
use Rattle.std.specs.Option.{option_map}
use Rattle.std.specs.Map.Iter.{deref_pair}
use Rattle.std.proofs.Common.{refl, sym, ◌∙◌, subst}
use Rattle.std.proofs.lemmas.Map.Iter.{rest_more}
use Rattle.column_book.specs.declared.block.Block.{Block}
use Rattle.column_book.specs.declared.block.Spot.{Spot}
use Rattle.column_book.proofs.Shelves.{Boxed}
use Rattle.column_book.specs.Blocks.{kept_in}
use Rattle.column_book.specs.Order.{key_in, place_from}
use Rattle.column_book.proofs.Walks.{IsLeft, left_start, left_next, next_is, from_start}
use Rattle.column_book.proofs.walking.next_in.Goals as goal

pub loop-spot-init : goal.loop-spot-init
loop-spot-init c =
    let es = c.args.blocks.now.map.entries in
    let given = option_map (λ k. k.now) c.args.after in
    let start = c.start_of-start.result in
    let whole = left_start es given start c.start_of-start.ensures c.range-spot-items.ensures.ordered in
    let is = c.into_iter-spot-iterator.ensures.into_iter_gives ∙ c.range-spot-items.ensures.between tt ∙ from_start start es in
    subst (IsLeft es given) (sym is) whole

pub loop-spot-preserved : goal.loop-spot-preserved
loop-spot-preserved c =
    let es = c.args.blocks.now.map.entries in
    let given = option_map (λ k. k.now) c.args.after in
    let e : Spot × Boxed = (c.in-Some.spot.now, c.in-Some.block.now) in
    let steps = rest_more deref_pair c.loop-spot.spot-iterator c.next.new.self c.next.result (c.in-Some.spot, c.in-Some.block) c.in-Some.is c.next.ensures.steps in
    let left : IsLeft es given (e ∷ c.next.new.self) = subst (IsLeft es given) steps c.loop-spot.invariant in
    left_next es given e c.next.new.self left
    (λ i low few. subst (λ (b : Block). kept_in b i ≡ None) c.deref-block.ensures (c.in_default.ensures.none i (subst (λ n. n ≤ i) (sym c.place_from.ensures) low) few))

pub key_in-requires : goal.key_in-requires
key_in-requires c =
    let es = c.args.blocks.now.map.entries in
    let given = option_map (λ k. k.now) c.args.after in
    let e : Spot × Boxed = (c.in-Some.spot.now, c.in-Some.block.now) in
    let steps = rest_more deref_pair c.loop-spot.spot-iterator c.next.new.self c.next.result (c.in-Some.spot, c.in-Some.block) c.in-Some.is c.next.ensures.steps in
    let left : IsLeft es given (e ∷ c.next.new.self) = subst (IsLeft es given) steps c.loop-spot.invariant in
    let p = c.in-Some-first_from.place in
    let h = c.in-Some-first_from.ensures.some in
    let low : place_from given e.0 ≤ p = subst (λ n. n ≤ p) c.place_from.ensures h.0 in
    let some : is_some (kept_in e.1.value p) ≡ true = subst (λ (b : Block). is_some (kept_in b p) ≡ true) c.deref-block.ensures h.2 in
    let none : (i : ℕ) → place_from given e.0 ≤ i → i < p → kept_in e.1.value i ≡ None =
    λ i from to. subst (λ (b : Block). kept_in b i ≡ None) c.deref-block.ensures (h.3 i (subst (λ n. n ≤ i) (sym c.place_from.ensures) from) to) in
    c.requires (key_in e.0 p) (next_is es given e c.next.new.self left p (key_in e.0 p) refl h.1 low some none).0

pub returns-in-Some-first_from : goal.returns-in-Some-first_from
returns-in-Some-first_from c =
    let es = c.args.blocks.now.map.entries in
    let given = option_map (λ k. k.now) c.args.after in
    let e : Spot × Boxed = (c.in-Some.spot.now, c.in-Some.block.now) in
    let steps = rest_more deref_pair c.loop-spot.spot-iterator c.next.new.self c.next.result (c.in-Some.spot, c.in-Some.block) c.in-Some.is c.next.ensures.steps in
    let left : IsLeft es given (e ∷ c.next.new.self) = subst (IsLeft es given) steps c.loop-spot.invariant in
    let p = c.in-Some-first_from.place in
    let h = c.in-Some-first_from.ensures.some in
    let low : place_from given e.0 ≤ p = subst (λ n. n ≤ p) c.place_from.ensures h.0 in
    let some : is_some (kept_in e.1.value p) ≡ true = subst (λ (b : Block). is_some (kept_in b p) ≡ true) c.deref-block.ensures h.2 in
    let none : (i : ℕ) → place_from given e.0 ≤ i → i < p → kept_in e.1.value i ≡ None =
    λ i from to. subst (λ (b : Block). kept_in b i ≡ None) c.deref-block.ensures (h.3 i (subst (λ n. n ≤ i) (sym c.place_from.ensures) from) to) in
    let is = next_is es given e c.next.new.self left p c.key_in.result c.key_in.ensures h.1 low some none in
    record { there = is.0; later = is.1; least = is.2 }
