use Rattle.std.proofs.Common.{◌≡◌, List, ℕ, ◌++◌, ◌∙◌, ap}
use Rattle.sp_ots.specs.Strings.{u32str}
use Rattle.sp_lms.specs.Key.{Key}
use Rattle.sp_lms.specs.Growing.{Growing}
use Rattle.sp_lms.specs.Keys as keys
use Rattle.sp_hss.specs.KeyTree.{tree_key, front_of}
use Rattle.sp_hss.specs.declared.tree.Tree.TheVariants.{Lower}
use Rattle.sp_hss.proofs.front.next_tree.Goals as goal

pub returns-clause-front : goal.returns-clause-front
unfolding front_of
returns-clause-front c =
    let upper = c.args.upper.now in
    let key : c.public.result ≡ tree_key upper.lms c.args.seed.now (Lower upper.used) =
    c.public.ensures ∙ ap (λ (v : Key). keys.public_key v.lms v.ots v.id v.seed) c.replace.ensures.key
    ∙ ap (λ (v : Growing). keys.public_key v.lms v.ots v.id v.seed) c.requires.next in
    c.write_front.ensures.front
    ∙ ap (λ (k : List ℕ). u32str 1 ++ keys.signature upper.lms upper.ots upper.id upper.seed upper.used k ++ k) key
    ∙ ap (λ (v : Key). (let k = tree_key upper.lms c.args.seed.now (Lower upper.used) in u32str 1 ++ keys.signature v.lms v.ots v.id v.seed v.used k ++ k))
    c.requires.upper
