use Rattle.std.proofs.Common.{refl}
use Rattle.sp_lms.proofs.public_key.verify.Goals as goal

pub returns-in-None : goal.returns-in-None
returns-in-None c =
    let none = c.in-None.ensures in
    (λ right. cc, λ valid. absurd (none.none refl valid.0 valid.1 valid.2))
