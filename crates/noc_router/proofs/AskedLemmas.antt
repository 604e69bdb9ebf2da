-- What the channels of a router ask for is what those of its view ask for.
use Rattle.std.proofs.Common.{◌≡◌, ℕ, ◌/◌, ◌<◌, Bool, true, false, not, Option, Some, None, refl, ap, sym, ◌∙◌, subst, ltb-true}
use Rattle.std.specs.Prelude.{nat_eq, nat_lt}
use Rattle.std.specs.Option.{option_eq}
use Rattle.noc_topo.specs.Lists.{is_some_of}
use Rattle.std.proofs.Math.Nat.{div-lt_iff_lt-mul}
use Rattle.noc_router.specs.declared.router.Router.TheInside.{Inside}
use Rattle.noc_router.specs.Inside.{IsRouter}
use Rattle.noc_view.specs.Verdict.{ask_of}
use Rattle.noc_view.specs.View.{View, size_of, view_claim, view_input}
use Rattle.noc_view.proofs.PlanLemmas.{ask_of-some, claim-waits}

not-not : (b : Bool) → b ≡ not (not b)
not-not true = refl
not-not false = refl

-- a test that finds a number other than this one
pub other-number : (o : Option ℕ) (x : ℕ) (b : Bool) → b ≡ not (option_eq nat_eq o (Some x)) → is_some_of o x ≡ not b
other-number None x b e = sym (ap not e)
other-number (Some y) x b e = not-not (nat_eq y x) ∙ sym (ap not e)

-- the output port of an output channel
pub port-below : (r : Inside) (o : ℕ) → IsRouter r → nat_lt o r.channels.size ≡ true → o / r.vcs < r.ports
port-below r o is within =
    let l : o < r.channels.size = ltb-true o r.channels.size within in
    (div-lt_iff_lt-mul is.some_vc).1 (subst (λ n. o < n) is.channels l)

-- the output channel that a channel asks for exists
pub ask-below : (v : View) (i : ℕ) (asked : Option ℕ) (o : ℕ) → asked ≡ ask_of (view_claim v i) → asked ≡ Some o → o < size_of v.site
ask-below v i asked o asks is = (claim-waits v (view_input v i).phase o (ask_of-some (view_claim v i) o (sym asks ∙ is))).2
