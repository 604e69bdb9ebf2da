-- What a rule by coordinates leads to, and the ranks of its formula.
use Rattle.std.proofs.Common.{◌≡◌, ℕ, ◌<◌, Bool, true, false, Option, Some, None, refl, sym, subst, ◌∙◌, arith}
use Rattle.std.specs.Prelude.{◌&&◌, nat_eq, nat_lt}
use Rattle.std.proofs.lemmas.Bool.{eqb-true, ltb-true, and_parts, false≢true}
use Rattle.std.proofs.lemmas.Option.{none-some, same_Some}
use Rattle.noc_topo.specs.Shape.{Grid, coordinates, local_port}
use Rattle.noc_route.specs.Channel.{Channel, Link, arrival_of, channel_vc}
use Rattle.noc_route.specs.Relation.{RelationParts, IsReached, led_on, rule_offers, rule_has, leads, is_led, takes_port, takes_channel}
use Rattle.noc_steps.specs.Ways.{is_of_class}
use Rattle.noc_route.specs.Ranks.{is_channel}
use Rattle.noc_route.specs.declared.rule.Rule.{Rule}
use Rattle.noc_rank.specs.Formulas.{is_ranked, formula, formula_at}

-- a link channel to which it leads, from router r towards t
pub record IsLedOn (g : RelationParts) (m r t p v : ℕ) : Type 0 where
  pub port : takes_port g.grid g.rule (coordinates g.grid.radix r) (coordinates g.grid.radix t) p ≡ true
  pub channel : takes_channel g.grid g.vcs g.classes g.rule m (coordinates g.grid.radix r) (coordinates g.grid.radix t) p v ≡ true

pub is_led-on : (g : RelationParts) (m r t p v : ℕ) → p < local_port g.grid → is_led g m r t p v ≡ true → IsLedOn g m r t p v
is_led-on g m r t p v l e = at (nat_eq r t) refl
  where
    at : (b : Bool) → nat_eq r t ≡ b → IsLedOn g m r t p v
    at true f =
        let parts = and_parts (nat_eq p (local_port g.grid)) (is_of_class g.vcs g.classes m v) (sym (rw f refl) ∙ e) in
        absurd (omega (arith, eqb-true p (local_port g.grid) parts.0, l))
    at false f =
        let parts = and_parts (takes_port g.grid g.rule (coordinates g.grid.radix r) (coordinates g.grid.radix t) p) _ (sym (rw f refl) ∙ e) in
        record { port = parts.0; channel = parts.1 }

-- what a rule has, by the place where the packet's channel arrives
pub record HasLed (g : RelationParts) (m t in_vc r p v : ℕ) : Type 0 where
  pub in_port : ℕ
  pub link : p < local_port g.grid
  pub led : leads g m (r, in_port) in_vc t p v ≡ true

rule_at-led : (g : RelationParts) (m t in_vc r p v : ℕ) (from : Option (ℕ × ℕ)) → rule_offers g m from in_vc t (Link r p v) ≡ true → HasLed g m t in_vc r p v
rule_at-led g m t in_vc r p v None e = absurd (false≢true e)
rule_at-led g m t in_vc r p v (Some place) e =
    let a = and_parts _ (leads g m place in_vc t p v) e in
    let b = and_parts (nat_eq r place.0) (nat_lt p (local_port g.grid)) a.0 in
    let P : ℕ → Type 0 = λ x. leads g m (x, place.1) in_vc t p v ≡ true in
    record { in_port = place.1; link = ltb-true _ _ b.1; led = subst P (sym (eqb-true r place.0 b.0)) a.1 }

pub rule_has-led : (g : RelationParts) (m : ℕ) (c : Channel) (t r p v : ℕ) → rule_has g m c t (Link r p v) ≡ true → HasLed g m t (channel_vc c) r p v
rule_has-led g m c t r p v e = rule_at-led g m t (channel_vc c) r p v (arrival_of g.grid c) e

-- packets come to a link channel where the rule leads to it
pub reached-led : (g : RelationParts) (m t a o w : ℕ) → IsReached g m (Link a o w) t → (in_vc : ℕ) × HasLed g m t in_vc a o w
reached-led g m t a o w (led_on {c = c} h e) = (channel_vc c, rule_has-led g m c t a o w e)

-- a channel with a rank is one that the rule ranks, by the formula
pub formula-parts : (grid : Grid) (vcs classes : ℕ) (rule : Rule) (r p v n : ℕ) → formula_at grid vcs classes rule r p v ≡ Some n
    → (is_ranked grid vcs classes rule v ≡ true) × (formula grid vcs classes rule r p v ≡ n)
formula-parts grid vcs classes rule r p v n e = at (is_channel grid vcs r p v && is_ranked grid vcs classes rule v) refl
  where
    at : (b : Bool) → (is_channel grid vcs r p v && is_ranked grid vcs classes rule v) ≡ b → (is_ranked grid vcs classes rule v ≡ true) × (formula grid vcs classes rule r p v ≡ n)
    at true f = ((and_parts (is_channel grid vcs r p v) _ f).1, same_Some _ n (sym (rw f refl) ∙ e))
    at false f = absurd (none-some n (sym (rw f refl) ∙ e))
