use Rattle.std.proofs.Common.{◌≡◌, ◌<◌, ◌++◌, ◌∷◌, List, take, drop, refl, sym, ap, ◌∙◌, ◌+◌, arith, length, length-append}
use Rattle.sp_runs.specs.Held.{Held}
use Rattle.sp_audit.proofs.ShareLemmas.{may_from, none_yet, share_from, split_at}
use Rattle.sp_audit.proofs.share.is_share.Goals as goal

within : (hs before : List Held) (e : Held) (after : List Held) → hs ≡ before ++ e ∷ after → length before < length hs
within hs before e after there =
    let long : length hs ≡ length before + length (e ∷ after) = ap length there ∙ length-append before (e ∷ after) in
    omega (arith, long)

pub returns-then-may_go : goal.returns-then-may_go
returns-then-may_go c = (
  λ _.
      share_from c.args.capacity c.args.held.now (take c.entries.place c.args.held.now) c.index-held-place.result (drop (c.entries.place + 1) c.args.held.now)
      c.args.id
      (omega (arith, c.if-held-from.false, c.from.ensures))
      (split_at c.args.held.now c.entries.place c.index-held-place.result c.entries-test.true c.index-held-place.is)
      (sym c.may_go.ensures ∙ c.if-may_go.true),
  λ _. refl,
)

pub entries-preserved : goal.entries-preserved
entries-preserved c =
    none_yet c.args.capacity c.args.held.now c.args.id c.entries.place c.index-held-place.result c.index-held-place.is c.entries.invariant
    (sym c.may_go.ensures ∙ c.if-may_go.false)

pub returns : goal.returns
returns c = (
  λ wrong. absurd cc,
  λ share.
      absurd (c.entries.invariant share.before share.entry share.after share.there
      (let less = within c.args.held.now share.before share.entry share.after share.there in omega (arith, less, c.entries-test.false))
      (may_from c.args.capacity c.args.held.now c.args.id share)),
)
