use Rattle.std.proofs.Common.{◌≡◌, ℕ, ◌-◌, List, length, take, drop, subst, sym, ap, ◌∙◌, length-drop}
use Rattle.std.proofs.Math.Seq.{take-length}
use Rattle.std.specs.Prelude.{◌↔◌, IsTrue}
use Rattle.sp_hss.specs.Validity.{IsValid}
use Rattle.sp_service.proofs.fitting.is_signed_at.Goals as goal

rest : (n : ℕ) (bs : List ℕ) → take (length bs - n) (drop n bs) ≡ drop n bs
rest n bs = ap (λ k. take k (drop n bs)) (sym (length-drop n bs)) ∙ take-length (drop n bs)

pub returns : goal.returns
returns c =
    let bytes = c.args.bytes.now in
    let family : List ℕ → Type 0 = λ sig. IsTrue c.check_topology.result ↔ IsValid c.args.admin.now (take c.args.size bytes) sig in
    subst family (rest c.args.size bytes) c.check_topology.ensures
