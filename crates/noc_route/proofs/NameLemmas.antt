-- A name is that of one rule, and only the rule `table` stands elsewhere.
use Rattle.std.proofs.Common.{◌≡◌, ℕ, Bool, true, false, List, [], ◌∷◌, find, Some, None, refl, sym, ap, ◌∙◌}
use Rattle.std.proofs.lemmas.Option.{none-some, same_Some}
use Rattle.std.specs.Cmp.Lexicographic.{same_text}
use Rattle.std.specs.Str.{bytes_eq}
use Rattle.noc_route.specs.Names.{rule_names, rule_name, rule_of, rule_named}
use Rattle.noc_route.specs.declared.rule.RuleName.{RuleName}
use Rattle.noc_route.specs.declared.rule.RuleName.TheVariants as name

find-found : {X : Type 0} (test : X → Bool) (xs : List X) (x : X) → find test xs ≡ Some x → test x ≡ true
find-found test [] x e = absurd (none-some x e)
find-found test (y ∷ ys) x e = at (find-found test ys x) (test y) refl
  where
    at : (find test ys ≡ Some x → test x ≡ true) → (b : Bool) → test y ≡ b → test x ≡ true
    at more true is = let one : Some y ≡ Some x = rw is at e in ap test (sym (same_Some y x one)) ∙ is
    at more false is = more (rw is at e)

pub name-of_rule : (text : List ℕ) (r : RuleName) → rule_of text ≡ Some r → text ≡ rule_name r
name-of_rule text r e = same_text text (rule_name r) (sym (find-found (λ r. bytes_eq text (rule_name r)) rule_names r e))

pub rule-of_name : (r : RuleName) → rule_of (rule_name r) ≡ Some r
rule-of_name name.Dor = refl
rule-of_name name.Dateline = refl
rule-of_name name.WestFirst = refl
rule-of_name name.Adaptive = refl
rule-of_name name.Table = refl

-- only the rule `table` stands elsewhere
pub only_table : (r : RuleName) → rule_named r ≡ None → r ≡ name.Table
only_table name.Dor h = cc
only_table name.Dateline h = cc
only_table name.WestFirst h = cc
only_table name.Adaptive h = cc
only_table name.Table h = refl
