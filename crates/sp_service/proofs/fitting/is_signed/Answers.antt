use Rattle.std.proofs.Common.{ℕ, List, subst, take, drop}
use Rattle.std.specs.Prelude.{◌↔◌, IsTrue}
use Rattle.sp_hss.specs.Validity.{IsValid}
use Rattle.sp_service.proofs.fitting.is_signed.Goals as goal

pub returns : goal.returns
returns c =
    let family : List ℕ → Type 0 = λ bs. IsTrue c.is_signed_at.result ↔ IsValid c.args.config.now.admin (take c.args.size bs) (drop c.args.size bs) in
    subst family c.as_slice.ensures c.is_signed_at.ensures
