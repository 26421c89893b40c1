use Rattle.std.proofs.Common.{◌∙◌, refl}
use Rattle.std.proofs.lemmas.List.{append-nil}
use Rattle.sp_ots.specs.Strings.{u32str}
use Rattle.sp_hss.proofs.tree.Tree.tag.Goals as goal

pub returns-in-Lower : goal.returns-in-Lower
unfolding u32str
returns-in-Lower c =
    c.tag-in-Lower.ensures ∙ rw (append-nil c.copy_from_slice.new.self, c.copy_from_slice.ensures.after, c.to_be_bytes.ensures, c.in-Lower.is) refl
