-- Rules that lead alike have the same relation and the same faults.
use Rattle.std.proofs.Common.{◌≡◌, ℕ, List, Option, Some, None, refl, sym, subst, ap, ◌∙◌}
use Rattle.std.specs.Prelude.{◌&&◌, All, nat_eq, nat_lt, Vec}
use Rattle.std.specs.declared.alloc.Global.{Global}
use Rattle.noc_topo.specs.Shape.{Grid, local_port}
use Rattle.noc_route.specs.Built.{IsRelationOfRule, routing_of}
use Rattle.noc_route.specs.Channel.{Channel, Link, Inject, Eject, arrival_of, channel_vc}
use Rattle.noc_route.specs.Relation.{is_right, leads, has_route_row, rule_offers, rule_has, table_rows_of, row_fault, IsReached, injected, led_on, IsPermitted, IsNoWay, IsFirstRow, IsFirstFault, IsFaultOf}
use Rattle.noc_route.specs.Routes.{Routes}
use Rattle.noc_route.specs.declared.rule.Entry.{Entry}
use Rattle.noc_route.specs.declared.rule.RouteRow.{RouteRow}
use Rattle.noc_route.specs.declared.rule.RouteFault.{RouteFault}
use Rattle.noc_route.specs.declared.rule.RouteFault.TheVariants.{WrongShape, NoLink, NotMinimal, EarlyEject, LateHop, NoWay, Memory}
use Rattle.noc_route.specs.declared.rule.Rule.{Rule}
use Rattle.noc_route.specs.declared.rule.Rule.TheVariants.{Rows}

-- two rules that are right alike, have the same rows, and lead alike
pub record AreAlike (grid : Grid) (vcs classes : ℕ) (r s : Rule) : Type 0 where
  pub right : is_right grid vcs classes r ≡ is_right grid vcs classes s
  pub rows : table_rows_of r ≡ table_rows_of s
  pub lead : (m : ℕ) (place : ℕ × ℕ) (v t p w : ℕ) → leads (routing_of grid vcs classes r) m place v t p w ≡ leads (routing_of grid vcs classes s) m place v t p w

pub AreAlike-same : (grid : Grid) (vcs classes : ℕ) (r s : Rule) → r ≡ s → AreAlike grid vcs classes r s
AreAlike-same grid vcs classes r s e = record {
  right = ap (is_right grid vcs classes) e;
  rows = ap table_rows_of e;
  lead = λ m place v t p w. ap (λ x. leads (routing_of grid vcs classes x) m place v t p w) e;
}

pub AreAlike-rows : (grid : Grid) (vcs classes : ℕ) (r s : Vec RouteRow Global) → r.items ≡ s.items → AreAlike grid vcs classes (Rows r) (Rows s)
AreAlike-rows grid vcs classes r s e = record {
  right = refl;
  rows = e;
  lead = λ m place v t p w. ap (λ (rows : List RouteRow). has_route_row rows m place v t p w) e;
}

pub AreAlike-turned : (grid : Grid) (vcs classes : ℕ) (r s : Rule) → AreAlike grid vcs classes r s → AreAlike grid vcs classes s r
AreAlike-turned grid vcs classes r s h = record { right = sym h.right; rows = sym h.rows; lead = λ m place v t p w. sym (h.lead m place v t p w) }

module _ (grid : Grid) (vcs classes : ℕ) where
  rule_at-alike : (r s : Rule) → AreAlike grid vcs classes r s → (m : ℕ) (from : Option (ℕ × ℕ)) (v t : ℕ) (o : Channel)
      → rule_offers (routing_of grid vcs classes r) m from v t o ≡ rule_offers (routing_of grid vcs classes s) m from v t o
  rule_at-alike r s h m None v t o = refl
  rule_at-alike r s h m (Some place) v t (Inject n w) = refl
  rule_at-alike r s h m (Some place) v t (Link a p w) = ap (λ b. nat_eq a place.0 && nat_lt p (local_port grid) && b) (h.lead m place v t p w)
  rule_at-alike r s h m (Some place) v t (Eject a w) = ap (λ b. nat_eq a place.0 && b) (h.lead m place v t (local_port grid) w)

  rule_has-alike : (r s : Rule) → AreAlike grid vcs classes r s → (m : ℕ) (c : Channel) (t : ℕ) (o : Channel)
      → rule_has (routing_of grid vcs classes r) m c t o ≡ rule_has (routing_of grid vcs classes s) m c t o
  rule_has-alike r s h m c t o = rule_at-alike r s h m (arrival_of grid c) (channel_vc c) t o

  reached-alike : (r s : Rule) → AreAlike grid vcs classes r s → (m : ℕ) (c : Channel) (t : ℕ) → IsReached (routing_of grid vcs classes r) m c t → IsReached (routing_of grid vcs classes s) m c t
  reached-alike r s h m c t (injected a b d e other) = injected a b d e other
  reached-alike r s h m c t (led_on {c = from} {r = a} {p = p} {v = v} before e) = led_on (reached-alike r s h m from t before) (sym (rule_has-alike r s h m from t (Link a p v)) ∙ e)

  permitted-alike : (r s : Rule) → AreAlike grid vcs classes r s → (m : ℕ) (c : Channel) (t : ℕ) (o : Channel) → IsPermitted (routing_of grid vcs classes r) m c t o → IsPermitted (routing_of grid vcs classes s) m c t o
  permitted-alike r s h m c t o e = (reached-alike r s h m c t e.0, sym (rule_has-alike r s h m c t o) ∙ e.1)

  no_way-alike : (r s : Rule) → AreAlike grid vcs classes r s → (e : Entry) → IsNoWay (routing_of grid vcs classes r) e → IsNoWay (routing_of grid vcs classes s) e
  no_way-alike r s h e way = record {
    channel = way.channel;
    arrives = way.arrives;
    vc = way.vc;
    reached = reached-alike r s h e.class way.channel e.dst way.reached;
    none = λ o. sym (rule_has-alike r s h e.class way.channel e.dst o) ∙ way.none o;
  }

  rows-alike : (r s : Rule) → AreAlike grid vcs classes r s → All (λ row. row_fault grid vcs classes row ≡ None) (table_rows_of r) → All (λ row. row_fault grid vcs classes row ≡ None) (table_rows_of s)
  rows-alike r s h good = let P : List RouteRow → Type 0 = λ rows. All (λ row. row_fault grid vcs classes row ≡ None) rows in subst P h.rows good

  pub IsRelationOfRule-alike : (r s : Rule) (routes : Routes) → AreAlike grid vcs classes r s → IsRelationOfRule (routing_of grid vcs classes r) routes → IsRelationOfRule (routing_of grid vcs classes s) routes
  IsRelationOfRule-alike r s routes h one =
      let back = AreAlike-turned grid vcs classes r s h in
      record {
        faultless = record {
          right = sym h.right ∙ one.faultless.right;
          rows = rows-alike r s h one.faultless.rows;
          ways = λ e way. one.faultless.ways e (no_way-alike s r back e way);
        };
        grid = one.grid;
        vcs = one.vcs;
        classes = one.classes;
        built = one.built;
        exact = λ m c t o. ((λ e. permitted-alike r s h m c t o ((one.exact m c t o).0 e)), (λ e. (one.exact m c t o).1 (permitted-alike s r back m c t o e)));
      }

  first_row-alike : (r s : Rule) (f : RouteFault) → AreAlike grid vcs classes r s → IsFirstRow (routing_of grid vcs classes r) f → IsFirstRow (routing_of grid vcs classes s) f
  first_row-alike r s f h one =
      let P : List RouteRow → Type 0 = λ rows. IsFirstFault grid vcs classes rows f in
      record { right = sym h.right ∙ one.right; first = subst P h.rows one.first }

  pub IsFaultOf-alike : (r s : Rule) (f : RouteFault) → AreAlike grid vcs classes r s → IsFaultOf (routing_of grid vcs classes r) f → IsFaultOf (routing_of grid vcs classes s) f
  IsFaultOf-alike r s WrongShape h e = sym h.right ∙ e
  IsFaultOf-alike r s (NoLink row) h e = first_row-alike r s (NoLink row) h e
  IsFaultOf-alike r s (NotMinimal row) h e = first_row-alike r s (NotMinimal row) h e
  IsFaultOf-alike r s (EarlyEject row) h e = first_row-alike r s (EarlyEject row) h e
  IsFaultOf-alike r s (LateHop row) h e = first_row-alike r s (LateHop row) h e
  IsFaultOf-alike r s (NoWay entry) h e = record {
    right = sym h.right ∙ e.right;
    rows = rows-alike r s h e.rows;
    here = no_way-alike r s h entry e.here;
    first = λ other way. e.first other (no_way-alike s r (AreAlike-turned grid vcs classes r s h) other way);
  }
  IsFaultOf-alike r s Memory h e = sym h.right ∙ e
