-- A page with one set more is a page.
use Rattle.std.proofs.Common.{◌≡◌, ◌++◌, false, List, [], ◌∷◌}
use Rattle.std.specs.List.{All, AllPairs}
use Rattle.std.proofs.lemmas.List.Elements.{All-push}
use Rattle.std.proofs.lemmas.List.Quantifiers.{all_pairs_push}
use Rattle.sp_routes.proofs.FewSets.{few_sets}
use Rattle.sp_routes.specs.declared.book.KeptSet.{KeptSet}
use Rattle.sp_routes.specs.declared.book.Page.{Page}
use Rattle.sp_routes.specs.Pages.{IsAnswer, IsPage, is_for}

-- what an earlier set is to a later one
abbrev IsOther : KeptSet → KeptSet → Type 0
IsOther set later = is_for later.destination later.count set ≡ false

pub page_with : (p q : Page) (set : KeptSet) → IsPage p → IsAnswer p.graph p.source set
    → All (λ (other : KeptSet). is_for set.destination set.count other ≡ false) p.sets.items
    → q.graph ≡ p.graph → q.source ≡ p.source → q.sets.items ≡ p.sets.items ++ set ∷ [] → IsPage q
page_with p q set page answer new graph source sets =
    let more : List KeptSet = p.sets.items ++ set ∷ [] in
    let answers : All (IsAnswer p.graph p.source) more = All-push (IsAnswer p.graph p.source) p.sets.items set page.answers answer in
    let once : AllPairs IsOther more = all_pairs_push IsOther p.sets.items set page.once (λ k d inside. new k d inside) in
    record {
      nodes = rw graph page.nodes;
      answers = rw (graph, source, sets) answers;
      once = rw sets once;
      few = rw sets (few_sets p.graph p.source more page.nodes answers once);
    }
