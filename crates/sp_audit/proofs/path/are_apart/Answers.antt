use Rattle.std.proofs.Common.{◌≡◌, ℕ, get_or, sym, ap, inl, inr, ◌∙◌, arith}
use Rattle.sp_audit.proofs.Hops.{cases_below}
use Rattle.sp_audit.proofs.PathLemmas.{among_before, get_same, not_among}
use Rattle.sp_audit.proofs.path.are_apart.Goals as goal

pub returns-then-is_among : goal.returns-then-is_among
returns-then-is_among c = (
  λ wrong. absurd cc,
  λ all.
      (let found =
      among_before c.args.path.now c.nodes.place (get_or c.args.path.now c.nodes.place (record { 0 = 0 })) (sym c.is_among.ensures ∙ c.if-is_among.true) in
      absurd (all found.0 c.nodes.place (record { 0 = 0 }) found.1 c.nodes-test.true (found.3 (record { 0 = 0 })))),
)

pub nodes-preserved : goal.nodes-preserved
nodes-preserved c = λ i j d before below. elim (cases_below c.nodes.place j) [
  | inl most ↦ (let at : j ≡ c.nodes.place = omega (arith, most, below) in λ same.
      not_among c.args.path.now c.nodes.place (get_or c.args.path.now c.nodes.place (record { 0 = 0 })) (sym c.is_among.ensures ∙ c.if-is_among.false) i d
      (omega (arith, before, at))
      (omega (arith, before, at, c.nodes-test.true))
      (same ∙ ap (λ (k : ℕ). get_or c.args.path.now k d) at ∙ get_same c.args.path.now c.nodes.place d (record { 0 = 0 }) c.nodes-test.true))
  | inr earlier ↦ c.nodes.invariant i j d before earlier
]
