use Rattle.std.proofs.Common.{◌≡◌, ◌∙◌, ap, sym, ℕ, List, [], ◌∷◌, ◌++◌, length, take, ◌+◌, ◌/◌, ◌%◌, ◌≤◌, ◌<◌, ◌^◌, arith, append_assoc}
use Rattle.std.specs.Fmt.{decimal}
use Rattle.std.proofs.lemmas.List.{length-append}
use Rattle.std.proofs.lemmas.Fmt.{decimal_digit, decimal_step}
use Rattle.flow_key.proofs.printing.+put_number.Goals as goal

one : (n : ℕ) → n < 10 → length (decimal n) ≡ 1
one n lt = ap length (decimal_digit n lt)

more : (n : ℕ) → 10 ≤ n → n < 2 ^ 64 → length (decimal n) ≡ length (decimal (n / 10)) + 1
more n le small = ap length (decimal_step n le small) ∙ length-append (decimal (n / 10)) ((48 + n % 10) ∷ [])

pub put_byte-requires : goal.put_byte-requires
put_byte-requires t c = omega (arith, one c.args.n c.if-n-lt10.true)

pub put_number-at-requires : goal.put_number-at-requires
put_number-at-requires t c = let longer = more c.args.n c.if-n-lt10.false (omega arith) in (omega arith, omega (arith, longer))

pub put_byte-requires-else-n-lt10 : goal.put_byte-requires-else-n-lt10
put_byte-requires-else-n-lt10 t c = omega (arith, more c.args.n c.if-n-lt10.false (omega arith))

pub returns-then-n-lt10-clause-place : goal.returns-then-n-lt10-clause-place
returns-then-n-lt10-clause-place t c = omega (arith, one c.args.n c.if-n-lt10.true)

pub returns-then-n-lt10-clause-text : goal.returns-then-n-lt10-clause-text
returns-then-n-lt10-clause-text t c = c.put_byte.ensures.text ∙ ap (λ (d : List ℕ). take c.args.at c.args.out.now ++ d) (sym (decimal_digit c.args.n c.if-n-lt10.true))

pub returns-else-n-lt10-clause-place : goal.returns-else-n-lt10-clause-place
returns-else-n-lt10-clause-place t c = omega (arith, more c.args.n c.if-n-lt10.false (omega arith))

pub returns-else-n-lt10-clause-text : goal.returns-else-n-lt10-clause-text
returns-else-n-lt10-clause-text t c =
    c.put_byte-else-n-lt10.ensures.text ∙ ap (λ (d : List ℕ). d ++ (48 + c.args.n % 10) ∷ []) c.put_number-at.ensures.text
    ∙ append_assoc (take c.args.at c.args.out.now) (decimal (c.args.n / 10)) ((48 + c.args.n % 10) ∷ [])
    ∙ ap (λ (d : List ℕ). take c.args.at c.args.out.now ++ d) (sym (decimal_step c.args.n c.if-n-lt10.false (omega arith)))
