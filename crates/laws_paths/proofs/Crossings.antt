-- Each path leaves a cut along an arc of its own, so there are no more paths than arcs that leave it.
use Rattle.std.proofs.Common.{◌≡◌, ◌≤◌, ℕ, Bool, true, false, not, cond, List, [], ◌∷◌, map, length, refl, sym, subst, ◌∙◌, arith}
use Rattle.std.specs.Prelude.{◌&&◌}
use Rattle.std.specs.List.{All}
use Rattle.std.proofs.lemmas.List.Elements.{All-head, All-tail}
use Rattle.sp_base.specs.declared.id.NodeId.{NodeId}
use Rattle.sp_graph.specs.declared.graph.Graph.{Graph}
use Rattle.sp_graph.specs.declared.part.Part.{Part}
use Rattle.sp_graph.specs.declared.part.Part.TheVariants as parts
use Rattle.sp_graph.specs.Cuts.{IsCut, leaving}
use Rattle.sp_graph.specs.Split.{Arc, arcs_of}
use Rattle.sp_graph.specs.Walks.{IsPath}
use Rattle.laws_paths.specs.Laws.{CutBoundsPaths, SmallCutProvesFewer}
use Rattle.laws_paths.proofs.Lists.{has_map, total, total_append, total_is, total_map, within}
use Rattle.laws_paths.proofs.Sets.{all_kept, all_once, laid, together}
use Rattle.laws_paths.proofs.Ways.{Way, arc_at, ways, ways_of}

-- 1 where the way leads out of the set
abbrev pub leaves : (Part → Bool) → Way → ℕ
leaves cut w = cond (cut w.0 && not (cut w.1)) 1 0

-- what leads from inside to outside leaves somewhere
line_leaves : (cut : Part → Bool) (u : NodeId) (inner : List NodeId) (t : NodeId) → cut (parts.Out u) ≡ true → cut (parts.In t) ≡ false
    → 1 ≤ total (leaves cut) (ways u inner t)
line_leaves cut u [] t inside outside = rw (inside, outside) (omega arith)
line_leaves cut u (v ∷ vs) t inside outside = into (cut (parts.In v)) refl (cut (parts.Out v)) refl (λ here. line_leaves cut v vs t here outside)
  where
    into : (a : Bool) → cut (parts.In v) ≡ a → (b : Bool) → cut (parts.Out v) ≡ b → (cut (parts.Out v) ≡ true → 1 ≤ total (leaves cut) (ways v vs t))
        → 1 ≤ total (leaves cut) (ways u (v ∷ vs) t)
    into false e b f rest = rw (inside, e) (omega arith)
    into true e false f rest = rw (inside, e, f) (omega arith)
    into true e true f rest = let more = rest f in rw (inside, e, f) (omega (arith, more))

all_leave : (g : Graph) (s t : NodeId) (ps : List (List NodeId)) (cut : Part → Bool) → All (IsPath g s t) ps → IsCut s t cut
    → length ps ≤ total (leaves cut) (together ps)
all_leave g s t [] cut good is = omega arith
all_leave g s t (p ∷ ps) cut good is =
    let l = laid g s t p (All-head (IsPath g s t) p ps good) in
    let one : 1 ≤ total (leaves cut) (ways_of p) =
    subst (λ (ws : List Way). 1 ≤ total (leaves cut) ws) (sym l.ways_are) (line_leaves cut s l.inner t is.source is.destination) in
    let rest = all_leave g s t ps cut (All-tail (IsPath g s t) p ps good) is in
    omega (arith, one, rest, total_append (leaves cut) (ways_of p) (together ps))

ends_of : Arc → Way
ends_of a = (a.from, a.to)

pub cut_bounds_paths : CutBoundsPaths
unfolding ends_of
cut_bounds_paths g s t k ps cut right good is =
    let arcs = arcs_of g s t in
    let leaves_arc : Arc → ℕ = λ a. cond (cut a.from && not (cut a.to)) 1 0 in
    let counted : leaving g s t cut ≡ total (leaves cut) (map ends_of arcs) = total_is leaves_arc arcs ∙ sym (total_map (leaves cut) ends_of arcs) in
    let bound = within (leaves cut) (together ps) (map ends_of arcs) (all_once g s t ps good.are_paths good.apart)
    (λ w h counts. has_map ends_of arcs (arc_at g w) (all_kept g s t ps right good.are_paths w h)) in
    omega (arith, counted, bound, all_leave g s t ps cut good.are_paths is, good.count)

pub small_cut_proves_fewer : SmallCutProvesFewer
small_cut_proves_fewer g s t k cut right is small ps good = omega (arith, small, cut_bounds_paths g s t k ps cut right good is)
