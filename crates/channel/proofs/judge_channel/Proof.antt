-- `channel::judge_channel` meets its contract, test by test.
use mathlib.Core.Path.{◌≡◌, sym, ap, ◌∙◌, subst}
use mathlib.Core.Bool.{not}
use Prim.Native.Nat.{ℕ, ◌*◌, ◌%◌, ◌^◌, ◌<◌, ◌≤◌}
use native.Mathlib.Omega.{arith}
use borrow.Author.Rules.{rules}
use borrow.Author.Tests.{eq-eqb, ne_eqb, lt-ltb, le-ltb}
use lib.ListN.{length}
use Rattle.laws.proofs.Powers.{one_shl}
use Rattle.refusal.proofs.Judge.{judge-none, judge_yes, judge_no}
use Rattle.channel.proofs.judge_channel.Statement.{statement}
use Rattle.channel.proofs.judge_channel.Tie as tie
use Rattle.refusal.specs.declared.Refusal.TheVariants.{ChannelValue}
use Rattle.std.specs.Prelude.{Err}

-- N, as it is computed
size : (s : tie.Start) → 1 * 2 ^ s.args.code.n % 2 ^ 64 ≡ 2 ^ s.args.code.n
size s = one_shl s.args.code.n 64 (omega (arith, s.requires))

abbrev start : tie.Else-channel-code → tie.Start
start c = c.before.before.before

long : (c : tie.Else-channel-code) → length (start c).args.channel.now ≡ 2 ^ (start c).args.code.n
long c = c.if-channel-code.false ∙ size (start c)

returns : tie.Need-returns-then-channel-code
returns c =
    let s = c.before.before.before in
    sym (judge_yes _ _ _ (ap not (ne_eqb _ _ (λ e. c.if-channel-code.true (e ∙ sym (size s))))))

returns-2 : tie.Need-returns-then-index-channel
returns-2 c =
    let e = c.before.before in
    let channel = (start e).args.channel.now in
    let i = c.before.first_outside-index.ensures in
    ap (λ (k : ℕ). Err (ChannelValue k)) i
    ∙ sym (judge_no _ _ _ (ap not (eq-eqb _ _ (long e)))
    ∙ judge_yes _ _ _ (lt-ltb _ _ (subst (λ (k : ℕ). k < length channel) i c.if-index-channel.true)))

returns-3 : tie.Need-returns
returns-3 c =
    let e = c.before.before in
    let channel = (start e).args.channel.now in
    let i = c.before.first_outside-index.ensures in
    sym (judge_no _ _ _ (ap not (eq-eqb _ _ (long e)))
    ∙ judge_no _ _ _ (le-ltb _ _ (subst (λ (k : ℕ). length channel ≤ k) i c.if-index-channel.false)) ∙ judge-none)

pub judge_channel_spec : {M : Type 1} → statement M
judge_channel_spec =
    tie.close
    (tie.spec
    (λ c. search rules)
    (λ c. search rules)
    returns
    (λ c κs. search rules)
    returns-2
    returns-3)
