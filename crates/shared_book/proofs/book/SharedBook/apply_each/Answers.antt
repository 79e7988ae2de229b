use Rattle.std.proofs.Common.{◌≡◌, refl, sym, ap, ◌∙◌, arith, length, [], ◌∷◌}
use Rattle.lock_rule.specs.declared.view.View.{View}
use Rattle.shared_book.specs.Passes.{head_view}
use Rattle.shared_book.proofs.Chained.{few, stays, together_none}
use Rattle.shared_book.proofs.book.SharedBook.apply_each.Goals as goal

pub returns-in_err-answers-clause-together : goal.returns-in_err-answers-clause-together
returns-in_err-answers-clause-together g c = together_none c.args.pass.now.view c.args.pass.now.view refl

pub returns-then-is_empty-clause-together : goal.returns-then-is_empty-clause-together
returns-then-is_empty-clause-together g c = together_none c.args.pass.now.view c.args.pass.now.view refl

pub overflow_cast-pass : goal.overflow_cast-pass
overflow_cast-pass g c =
    let below = few _ _ _ _ _ _ c.serve_each.ensures.serves in
    let room = c.requires.left in
    let count = c.len.ensures in
    let long = c.serve_each.new.answers.ok in
    omega arith

pub overflow_sub-pass : goal.overflow_sub-pass
overflow_sub-pass g c =
    let below = few _ _ _ _ _ _ c.serve_each.ensures.serves in
    let room = c.requires.left in
    let left = c.pass.invariant.left in
    let same = ap (λ p. p.view.begun) c.pass.view_is in
    let count = c.len.ensures in
    let long = c.serve_each.new.answers.ok in
    omega arith

pub invariant_of-pass : goal.invariant_of-pass
invariant_of-pass g c =
    let s = stays _ _ _ _ _ _ c.serve_each.ensures.serves in
    let i = c.pass.invariant in
    let was : head_view c.pass.inside.badge.views ≡ c.into_seat-seat.result.me.0 = ap head_view
    (sym (ap (λ b. b.views) c.replace.ensures.value) ∙ c.into_seat-seat.ensures.2) in
    let here = c.into_badge.ensures.2 in
    let now = ap head_view here in
    let below = few _ _ _ _ _ _ c.serve_each.ensures.serves in
    let room = c.requires.left in
    let same = ap (λ p. p.view.begun) c.pass.view_is in
    record {
      one = here ∙ ap (λ (v : View). v ∷ []) (sym now);
      live = ap (λ (v : View). v.live) now ∙ (s.live ∙ (sym (ap (λ (v : View). v.live) was) ∙ i.live));
      idle = ap (λ (v : View). v.doing) now ∙ (s.doing ∙ (sym (ap (λ (v : View). v.doing) was) ∙ i.idle));
      number = i.number ∙ (ap (λ (v : View). v.number) was ∙ sym (ap (λ (v : View). v.number) now ∙ s.number));
      made = i.made ∙ (ap (λ (v : View). v.made) was ∙ sym (ap (λ (v : View). v.made) now ∙ s.made));
      joined = i.joined ∙ (ap (λ (v : View). length v.joined) was ∙ sym (ap (λ (v : View). length v.joined) now ∙ ap length s.joined));
      left = (let a = i.left in let b = ap (λ (v : View). v.begun) was in let d = ap (λ (v : View). v.begun) now in let e = s.begun in
          let count = c.len.ensures in let long = c.serve_each.new.answers.ok in omega arith);
    }

pub returns-clause-keeps : goal.returns-clause-keeps
returns-clause-keeps g c =
    let s = stays _ _ _ _ _ _ c.serve_each.ensures.serves in
    let was : c.args.pass.now.view ≡ c.into_seat-seat.result.me.0
    = sym (ap (λ p. p.view) c.pass.view_is) ∙ ap head_view (sym (ap (λ b. b.views) c.replace.ensures.value) ∙ c.into_seat-seat.ensures.2) in
    let now = ap head_view c.into_badge.ensures.2 in (
      ap (λ (v : View). v.number) now ∙ (s.number ∙ sym (ap (λ (v : View). v.number) was)),
      ap (λ (v : View). v.made) now ∙ (s.made ∙ sym (ap (λ (v : View). v.made) was)),
      ap (λ (v : View). v.joined) now ∙ (s.joined ∙ sym (ap (λ (v : View). v.joined) was)),
    )
