-- A text says one configuration at most, which fits one topology at most; and a text that is refused says none that fits.
use Rattle.std.proofs.Common.{◌≡◌, ℕ, List, Ok, Err, refl, sym, ap, subst, ◌∙◌, inl, inr}
use Rattle.sp_config.specs.declared.config.Config.{Config}
use Rattle.sp_config.specs.declared.refused.ConfigRefused.{ConfigRefused}
use Rattle.sp_service.specs.Fits.{Fails, Fits, IsSigned, Misfits}
use Rattle.sp_service.specs.declared.refused.SetupRefused.{SetupRefused}
use Rattle.sp_service.specs.declared.refused.SetupRefused.TheVariants as setups
use Rattle.sp_topology.specs.Documents.{read_of}
use Rattle.sp_topology.specs.declared.topology.Topology.{Topology}
use Rattle.sp_service.specs.Configured.{IsConfigured, IsRefused, SaysConfig}

-- ---- one configuration

pub same_config : (text : List ℕ) (c d : Config) → SaysConfig text (Ok c) → SaysConfig text (Ok d) → c ≡ d
same_config text c d one two = let same : Ok c ≡ Ok d = sym one.1 ∙ two.1 in cc

says_one : (text : List ℕ) (c : Config) (refused : ConfigRefused) → SaysConfig text (Ok c) → SaysConfig text (Err refused) → ⊥
says_one text c refused says (inl bad) = let same : Ok c ≡ Err refused = sym says.1 ∙ bad.1 in absurd (cc)
says_one text c refused says (inr bad) = bad.0 says.0

-- ---- one topology

pub record SameRead (t u : Topology) (n m : ℕ) : Type 0 where
  pub topology : t ≡ u
  pub size : n ≡ m

same_read : (c : Config) (t u : Topology) (n m : ℕ) → read_of c.topology ≡ Ok (t, n) → read_of c.topology ≡ Ok (u, m) → SameRead t u n m
same_read c t u n m one two = record { topology = ap (λ (p : Topology × ℕ). p.0) pair; size = ap (λ (p : Topology × ℕ). p.1) pair }
  where
    A : Topology × ℕ
    A = (t, n)

    B : Topology × ℕ
    B = (u, m)

    pair : A ≡ B
    pair = let same : read_of c.topology ≡ Ok A = one in let there : read_of c.topology ≡ Ok B = two in cc

pub same_topology : (text : List ℕ) (c d : Config) (t u : Topology) → IsConfigured text c t → IsConfigured text d u → t ≡ u
same_topology text c d t u one two =
    let same = same_config text d c two.says one.says in
    let fits : Fits c u = subst (λ (e : Config). Fits e u) same two.fits in
    let read = same_read c t u one.fits.size fits.size one.fits.read fits.read in
    read.topology

-- ---- no refusal

fails_not : (c : Config) (t : Topology) (size : ℕ) (refused : SetupRefused) → Fits c t → IsSigned c size → Fails c t size refused → ⊥
fails_not c t size setups.Signature fits signed fails = fails signed
fails_not c t size setups.Me fits signed fails = let none = fails.1 in let own = fits.own in absurd (cc)
fails_not c t size setups.Key fits signed fails = fails.2 fits.own
fails_not c t size setups.Peer fits signed fails = fails.2 fits.peers
fails_not c t size (setups.Document fault) fits signed fails = fails
fails_not c t size setups.Memory fits signed fails = fails

judged_not : (c : Config) (t u : Topology) (size : ℕ) (refused : SetupRefused) → Fits c t → read_of c.topology ≡ Ok (u, size) → Fails c u size refused → ⊥
judged_not c t u size refused fits read fails =
    let same = same_read c t u fits.size size fits.read read in
    fails_not c u size refused (subst (Fits c) same.topology fits) (subst (IsSigned c) same.size fits.signed) fails

fits_one : (c : Config) (t : Topology) (refused : SetupRefused) → (refused ≡ setups.Memory → ⊥) → Fits c t → Misfits c refused → ⊥
fits_one c t (setups.Document fault) want fits misfits = let read = fits.read in absurd (cc)
fits_one c t setups.Memory want fits misfits = want refl
fits_one c t setups.Signature want fits misfits = judged_not c t misfits.0 misfits.1 setups.Signature fits misfits.2 misfits.3
fits_one c t setups.Me want fits misfits = judged_not c t misfits.0 misfits.1 setups.Me fits misfits.2 misfits.3
fits_one c t setups.Key want fits misfits = judged_not c t misfits.0 misfits.1 setups.Key fits misfits.2 misfits.3
fits_one c t setups.Peer want fits misfits = judged_not c t misfits.0 misfits.1 setups.Peer fits misfits.2 misfits.3

pub not_refused : (text out : List ℕ) (c : Config) (t : Topology) → IsConfigured text c t → IsRefused text out → ⊥
not_refused text out c t configured (inl bad) = says_one text c bad.refused configured.says bad.says
not_refused text out c t configured (inr misfit) =
    let same = same_config text c misfit.config configured.says misfit.says in
    fits_one misfit.config t misfit.refused misfit.no_want (subst (λ (e : Config). Fits e t) same configured.fits) misfit.misfits
