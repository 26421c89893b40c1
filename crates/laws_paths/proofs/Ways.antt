-- The ways of a path: the pairs of parts that it goes between, one after the other.
--
--     s 2 t       Out s -> In 2, In 2 -> Out 2, Out 2 -> In t
use Rattle.std.proofs.Common.{◌≡◌, ℕ, Bool, true, false, List, [], ◌∷◌, ◌++◌, refl, sym, ap, subst, ◌∙◌, inl, inr, arith}
use Rattle.std.specs.Prelude.{pos}
use Rattle.sp_base.specs.declared.id.NodeId.{NodeId}
use Rattle.sp_graph.specs.declared.graph.Graph.{Graph}
use Rattle.sp_graph.specs.declared.part.Part.{Part}
use Rattle.sp_graph.specs.declared.part.Part.TheVariants as parts
use Rattle.sp_graph.specs.Certificates.{through}
use Rattle.sp_graph.specs.Split.{Arc}
use Rattle.sp_graph.specs.Walks.{path_cost, steps, weight_between}
use Rattle.laws_paths.proofs.Lists.{Distinct, Has, has_left, total, total_is}

abbrev pub Way : Type 0
Way = Part × Part

-- what it costs to go this way
abbrev pub price : Graph → Way → ℕ
price g (parts.Out u, parts.In v) = weight_between g.edges u v
price g (parts.Out u, parts.Out v) = 0
price g (parts.In u, parts.In v) = 0
price g (parts.In u, parts.Out v) = 0

-- the arc of a way
abbrev pub arc_at : Graph → Way → Arc
arc_at g w = record { from = w.0; to = w.1; cost = pos (price g w) }

abbrev pub ways_of : List NodeId → List Way
ways_of path = steps (through path)

-- the nodes from u over these to t
abbrev pub line : NodeId → List NodeId → NodeId → List NodeId
line u inner t = u ∷ (inner ++ t ∷ [])

abbrev pub ways : NodeId → List NodeId → NodeId → List Way
ways u [] t = (parts.Out u, parts.In t) ∷ []
ways u (v ∷ vs) t = (parts.Out u, parts.In v) ∷ (parts.In v, parts.Out v) ∷ ways v vs t

-- the ways of a line of nodes, one hop after another
pub ways_are : (u : NodeId) (inner : List NodeId) (t : NodeId) → ways_of (line u inner t) ≡ ways u inner t
ways_are u [] t = refl
ways_are u (v ∷ []) t = refl
ways_are u (v ∷ w ∷ ws) t = ap (λ (rest : List Way). (parts.Out u, parts.In v) ∷ (parts.In v, parts.Out v) ∷ rest) (ways_are v (w ∷ ws) t)

-- the prices of the ways are the weights of the steps
pub prices_are : (g : Graph) (u : NodeId) (inner : List NodeId) (t : NodeId)
    → total (λ step. weight_between g.edges step.0 step.1) (steps (line u inner t)) ≡ total (price g) (ways u inner t)
prices_are g u [] t = refl
prices_are g u (v ∷ []) t = omega arith
prices_are g u (v ∷ w ∷ ws) t = omega (arith, prices_are g v (w ∷ ws) t)

-- a way is along a step or through an inner node
pub data Kind (u : NodeId) (inner : List NodeId) (t : NodeId) (w : Way) : Type 0 where
  Along : (a b : NodeId) → Has (steps (line u inner t)) (a, b) → w ≡ (parts.Out a, parts.In b) → Kind u inner t w
  Across : (v : NodeId) → Has inner v → w ≡ (parts.In v, parts.Out v) → Kind u inner t w

first_step : (u : NodeId) (inner : List NodeId) (t v : NodeId) → Has (steps (line u (v ∷ inner) t)) (u, v)
first_step u inner t v = inl refl

pub kind : (u : NodeId) (inner : List NodeId) (t : NodeId) (w : Way) → Has (ways u inner t) w → Kind u inner t w
kind u [] t w (inl e) = Along u t (inl refl) (sym e)
kind u [] t w (inr h) = absurd h
kind u (v ∷ vs) t w (inl e) = Along u v (inl refl) (sym e)
kind u (v ∷ vs) t w (inr (inl e)) = Across v (inl refl) (sym e)
kind u (v ∷ vs) t w (inr (inr h)) = more (kind v vs t w h)
  where
    more : Kind v vs t w → Kind u (v ∷ vs) t w
    more (Along a b at is) = Along a b (inr at) is
    more (Across x at is) = Across x (inr at) is

-- a step goes from a node that isn't the last to one that isn't the first
pub step_from : (u : NodeId) (inner : List NodeId) (t a b : NodeId) → Has (steps (line u inner t)) (a, b) → Has (u ∷ inner) a
step_from u [] t a b (inl e) = inl (ap (λ (x : NodeId × NodeId). x.0) e)
step_from u [] t a b (inr h) = absurd h
step_from u (v ∷ vs) t a b (inl e) = inl (ap (λ (x : NodeId × NodeId). x.0) e)
step_from u (v ∷ vs) t a b (inr h) = inr (step_from v vs t a b h)

-- each step of a line leads to a node behind its first
pub step_to : (u : NodeId) (inner : List NodeId) (t a b : NodeId) → Has (steps (line u inner t)) (a, b) → Has (inner ++ t ∷ []) b
step_to u [] t a b (inl e) = inl (ap (λ (x : NodeId × NodeId). x.1) e)
step_to u [] t a b (inr h) = absurd h
step_to u (v ∷ vs) t a b (inl e) = inl (ap (λ (x : NodeId × NodeId). x.1) e)
step_to u (v ∷ vs) t a b (inr h) = inr (step_to v vs t a b h)

-- an inner node ends a step
pub step_into : (u : NodeId) (inner : List NodeId) (t v : NodeId) → Has inner v → (a : NodeId) × Has (steps (line u inner t)) (a, v)
step_into u [] t v h = absurd h
step_into u (x ∷ xs) t v (inl e) = (u, inl (ap (λ (y : NodeId). (u, y)) e))
step_into u (x ∷ xs) t v (inr h) = let at = step_into x xs t v h in (at.0, inr at.1)

-- the node of a part
abbrev pub node_of : Part → NodeId
node_of (parts.In v) = v
node_of (parts.Out v) = v

abbrev pub is_out : Part → Bool
is_out (parts.In v) = false
is_out (parts.Out v) = true

-- no way comes twice where no node does
pub ways_once : (u : NodeId) (inner : List NodeId) (t : NodeId) → Distinct (line u inner t) → Distinct (ways u inner t)
ways_once u [] t once = ((λ h. h), tt)
ways_once u (v ∷ vs) t once = (edge, (node, ways_once v vs t once.1))
  where
    later : (a : NodeId) → Has (v ∷ vs) a → a ≡ u → ⊥
    later a h e = once.0 (subst (Has (line v vs t)) e (has_left (v ∷ vs) (t ∷ []) a h))

    start : Kind v vs t (parts.Out u, parts.In v) → ⊥
    start (Along a b at is) = later a (step_from v vs t a b at) (sym (ap (λ (w : Way). node_of w.0) is))
    start (Across x at is) = let same : true ≡ false = ap (λ (w : Way). is_out w.0) is in absurd cc

    edge : Has ((parts.In v, parts.Out v) ∷ ways v vs t) (parts.Out u, parts.In v) → ⊥
    edge (inl e) = let same : false ≡ true = ap (λ (w : Way). is_out w.0) e in absurd cc
    edge (inr h) = start (kind v vs t (parts.Out u, parts.In v) h)

    through_it : Kind v vs t (parts.In v, parts.Out v) → ⊥
    through_it (Along a b at is) = let same : false ≡ true = ap (λ (w : Way). is_out w.0) is in absurd cc
    through_it (Across x at is) = once.1.0 (has_left vs (t ∷ []) v (subst (Has vs) (sym (ap (λ (w : Way). node_of w.0) is)) at))

    node : Has (ways v vs t) (parts.In v, parts.Out v) → ⊥
    node h = through_it (kind v vs t (parts.In v, parts.Out v) h)

pub cost_is : (g : Graph) (path : List NodeId) (u : NodeId) (inner : List NodeId) (t : NodeId) → path ≡ line u inner t
    → path_cost g path ≡ total (price g) (ways_of path)
cost_is g path u inner t is =
    let price_of : NodeId × NodeId → ℕ = λ step. weight_between g.edges step.0 step.1 in
    total_is price_of (steps path) ∙ ap (λ (p : List NodeId). total price_of (steps p)) is ∙ prices_are g u inner t
    ∙ ap (total (price g)) (sym (ways_are u inner t)) ∙ ap (λ (p : List NodeId). total (price g) (ways_of p)) (sym is)
