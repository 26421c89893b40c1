use Rattle.std.proofs.Common.{◌≡◌, ◌∙◌, ◌++◌, ap, ℕ, List}
use Rattle.sp_ots.specs.Strings.{u32str}
use Rattle.sp_lms.specs.Key.{Key}
use Rattle.sp_lms.specs.Keys as keys
use Rattle.sp_hss.specs.KeyTree.{public_key, tree_key}
use Rattle.sp_hss.specs.declared.tree.Tree.TheVariants.{Upper}
use Rattle.sp_hss.proofs.signer.Signer.public.Goals as goal

pub returns : goal.returns
unfolding public_key
returns c =
    let k = c.self.inside in
    let key : c.public.result ≡ tree_key k.height k.seed Upper =
    c.public.ensures ∙ ap (λ (v : Key). keys.public_key v.lms v.ots v.id v.seed) c.self.invariant.at.upper_is in
    rw (← c.self.view_is) (c.spelled.ensures ∙ ap (λ (upper : List ℕ). u32str 2 ++ upper) key)
