use Rattle.std.proofs.Common.{◌≡◌, ℕ, ◌+◌, ◌-◌, List, length, ap, ◌∙◌, arith, rules}
use Rattle.sp_outside.specs.Disk.{patched}
use Rattle.sp_outside.proofs.DiskLemmas.{laid_at}
use Rattle.sp_outside.proofs.file_bytes.FileBytes.write.Goals as goal

pub returns : goal.returns
returns c =
    let width : c.args.at + length c.args.piece.now - c.args.at ≡ length c.args.piece.now = omega arith in
    rw (width, c.copy_from_slice.ensures.after)
    (laid_at c.clear.new.bytes c.self.inside.len c.args.at c.max-self-inside.result c.args.piece.now (search rules) (search rules) c.max-self-inside.ensures
    c.clear.ensures.cleared
    ∙ ap (λ (f : List ℕ). patched f c.args.at c.args.piece.now) (c.clear.ensures.before ∙ c.self.view_is))
