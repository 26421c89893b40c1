use Rattle.std.proofs.Common.{◌-◌, ◌∙◌, length, take, drop, sym, arith, inl, inr}
use Rattle.std.specs.Bool.{IsTrue}
use Rattle.std.proofs.lemmas.List.{take_rest}
use Rattle.sp_lms.specs.Validity as tree
use Rattle.sp_hss.specs.Validity.{IsSignedBelow}
use Rattle.sp_hss.proofs.Cuts.{both_long}
use Rattle.sp_hss.proofs.check.verify.Goals as goal
use Rattle.sp_hss.proofs.check.verify.Goals.{then-public-lt4-via-then-public-lt4, then-public-lt4-via-else-public-lt4+then-sig-lt4}

pub returns-then-public-lt4 : goal.returns-then-public-lt4
returns-then-public-lt4 c = (
  λ right. cc,
  λ valid.
      let long = both_long c.args.public.now c.args.msg.now c.args.sig.now valid in
      absurd (elim c.then-public-lt4.branch [
        | then-public-lt4-via-then-public-lt4 w ↦ omega (arith, long.0, w.if-public-lt4.true)
        | then-public-lt4-via-else-public-lt4+then-sig-lt4 w ↦ omega (arith, long.1, w.if-sig-lt4.true)
      ]),
)

pub returns-in-1-eq0 : goal.returns-in-1-eq0
returns-in-1-eq0 c =
    let public = c.args.public.now in
    let msg = c.args.msg.now in
    let sig = c.args.sig.now in
    let key = take (length public - 4) (drop 4 public) in
    let rest = take (length sig - 4) (drop 4 sig) in
    let told : (IsTrue c.verify.result → tree.IsValid key msg rest) × (tree.IsValid key msg rest → IsTrue c.verify.result) = c.verify.ensures in
    let ways = rw (take_rest public 4, take_rest sig 4) at told in (
      λ right. inl record { levels = sym c.u32_at.ensures ∙ c.in-1-eq0.is-0; levels_below = sym c.u32_at-2.ensures ∙ c.in-1-eq0.is-1; signed = ways.0 right },
      λ valid. elim valid [
        | inl one ↦ ways.1 one.signed
        | inr two ↦ absurd (omega (arith, two.levels, c.u32_at.ensures, c.in-1-eq0.is-0))
      ],
    )

pub returns-in-2-eq1 : goal.returns-in-2-eq1
returns-in-2-eq1 c =
    let public = c.args.public.now in
    let msg = c.args.msg.now in
    let sig = c.args.sig.now in
    let key = take (length public - 4) (drop 4 public) in
    let rest = take (length sig - 4) (drop 4 sig) in
    let told : (IsTrue c.verify_below.result → IsSignedBelow key msg rest) × (IsSignedBelow key msg rest → IsTrue c.verify_below.result) =
    c.verify_below.ensures in
    let ways = rw (take_rest public 4, take_rest sig 4) at told in (
      λ right. inr record { levels = sym c.u32_at.ensures ∙ c.in-2-eq1.is-0; levels_below = sym c.u32_at-2.ensures ∙ c.in-2-eq1.is-1; signed = ways.0 right },
      λ valid. elim valid [
        | inl one ↦ absurd (omega (arith, one.levels, c.u32_at.ensures, c.in-2-eq1.is-0))
        | inr two ↦ ways.1 two.signed
      ],
    )
