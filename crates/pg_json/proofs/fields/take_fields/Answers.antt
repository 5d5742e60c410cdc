use Rattle.std.proofs.Common.{◌≡◌, ◌-◌, ◌∷◌, length, None, Some, true, false, bytes_eq, codes, sym, ap, subst, ◌∙◌, arith, rules}
use Rattle.std.proofs.lemmas.Slice.Eq.{bytes_eq-Decides}
use Rattle.json.specs.Token.{Token}
use Rattle.json.specs.Json.{read_key, members, value}
use Rattle.json.proofs.Grammar.{value_is, read_key-shorter}
use Rattle.serde_json.specs.Data.{string, put}
use Rattle.serde_json.specs.Read.{of_json, of_members, converted}
use Rattle.pg_json.specs.Fields.{AsksNothing, members_with, object_giving, later_keys, text_key_name, text_keys, HaveDepth, HasSign}
use Rattle.pg_json.specs.Replies.{natural}
use Rattle.pg_json.specs.Requests.{is_one_of}
use Rattle.pg_json.proofs.Reading.{member_read, member_refused, key_refused, members_over}
use Rattle.pg_json.proofs.Strangers.{strange_member, no_key}
use Rattle.pg_value_core.specs.View.{entries_view}
use Rattle.pg_json.proofs.fields.take_fields.Goals as goal

pub members-preserved-then-is_same : goal.members-preserved-then-is_same
members-preserved-then-is_same c =
    let p = value 126 in
    let l = c.members in
    let n = l.invariant.0 in
    let old = members_with l.found in
    let k = c.in-Ok-Some.key.now in
    let s = c.next_key.new.self in
    let r = c.read_parameters.new.reader in
    let done = c.in_ok-read_parameters.ensures in
    let d = object_giving (entries_view c.in_ok-read_parameters.field-0.entries) in
    let named : read_key l.reader ≡ Some (Some k, s) = grind arith in
    let is : bytes_eq k (codes "params") ≡ true = search rules in
    let same : k ≡ codes "params" = (bytes_eq-Decides k (codes "params")).0 is in
    let less = read_key-shorter l.reader (Some k) s named in
    let lesser = done.shorter in
    let turn = member_read p old n k l.reader s r d (omega (arith, l.invariant.1, less)) named done.ok in (
      n - 1,
      omega (arith, l.invariant.1, less, lesser),
      l.invariant.2 ∙ turn ∙ ap (λ key. converted (λ ms. of_members ms (put key d old)) (members p (n - 1) r)) same
          ∙ ap (λ found. converted (λ ms. of_members ms found) (members p (n - 1) r)) (sym c.put_parameters.ensures.members),
      λ before. (subst HaveDepth (sym c.put_parameters.ensures.parameters) done.given, subst HasSign (sym c.put_parameters.ensures.page) (l.invariant.3 before).1),
    )

pub members-preserved : goal.members-preserved
members-preserved c =
    let p = value 126 in
    let l = c.members in
    let n = l.invariant.0 in
    let old = members_with l.found in
    let k = c.in-Ok-Some.key.now in
    let s = c.next_key.new.self in
    let r = c.read_page.new.reader in
    let done = c.in_ok-read_page.ensures in
    let d = natural c.in_ok-read_page.field-0 in
    let named : read_key l.reader ≡ Some (Some k, s) = grind arith in
    let is : bytes_eq k (codes "page") ≡ true = search rules in
    let same : k ≡ codes "page" = (bytes_eq-Decides k (codes "page")).0 is in
    let less = read_key-shorter l.reader (Some k) s named in
    let lesser = done.shorter in
    let turn = member_read p old n k l.reader s r d (omega (arith, l.invariant.1, less)) named done.ok in (
      n - 1,
      omega (arith, l.invariant.1, less, lesser),
      l.invariant.2 ∙ turn ∙ ap (λ key. converted (λ ms. of_members ms (put key d old)) (members p (n - 1) r)) same
          ∙ ap (λ found. converted (λ ms. of_members ms found) (members p (n - 1) r)) (sym c.put_page.ensures.members),
      λ before. (subst HaveDepth (sym c.put_page.ensures.parameters) (l.invariant.3 before).0, subst HasSign (sym c.put_page.ensures.page) done.within),
    )

pub members-preserved-in-Some : goal.members-preserved-in-Some
members-preserved-in-Some c =
    let p = value 126 in
    let l = c.members in
    let n = l.invariant.0 in
    let old = members_with l.found in
    let k = c.in-Ok-Some.key.now in
    let s = c.next_key.new.self in
    let r = c.next.new.self in
    let d = string c.in-Some-String.text.now in
    let named : read_key l.reader ≡ Some (Some k, s) = grind arith in
    let first : s ≡ Token.string c.in-Some-String.text.now ∷ r = grind arith in
    let is : converted of_json (p s) ≡ Some (d, r) = ap (converted of_json) (ap p first ∙ value_is 126 _) in
    let same : k ≡ text_key_name c.in-Some.text_key = c.in-Some.ensures.some in
    let less = read_key-shorter l.reader (Some k) s named in
    let turn = member_read p old n k l.reader s r d (omega (arith, l.invariant.1, less)) named is in (
      n - 1,
      omega (arith, l.invariant.1, less, ap length first),
      l.invariant.2 ∙ turn ∙ ap (λ key. converted (λ ms. of_members ms (put key d old)) (members p (n - 1) r)) same
          ∙ ap (λ found. converted (λ ms. of_members ms found) (members p (n - 1) r)) (sym c.put_text.ensures.texts),
      λ before. (subst HaveDepth (sym c.put_text.ensures.parameters) (l.invariant.3 before).0, subst HasSign (sym c.put_text.ensures.page) (l.invariant.3 before).1),
    )

pub returns-in-members-clause-members : goal.returns-in-members-clause-members
returns-in-members-clause-members c =
    let l = c.members in
    let k = c.in-Ok-Some.key.now in
    let named : read_key l.reader ≡ Some (Some k, c.next_key.new.self) = grind arith in
    let no_text : is_one_of text_keys k ≡ false = search rules in
    let not_later : is_one_of later_keys k ≡ false = search rules in
    let no_parameters : bytes_eq k (codes "params") ≡ false = search rules in
    let no_page : bytes_eq k (codes "page") ≡ false = search rules in
    subst AsksNothing (sym l.invariant.2) (strange_member (value 126) (members_with l.found) l.invariant.0 k l.reader c.next_key.new.self named (no_key k no_text no_parameters no_page not_later))

pub returns-in-Some-Bad-clause-members : goal.returns-in-Some-Bad-clause-members
returns-in-Some-Bad-clause-members c =
    let p = value 126 in
    let l = c.members in
    let k = c.in-Ok-Some.key.now in
    let s = c.next_key.new.self in
    let named : read_key l.reader ≡ Some (Some k, s) = grind arith in
    let first : s ≡ Token.bad ∷ c.next.new.self = grind arith in
    let none : converted of_json (p s) ≡ None = ap (converted of_json) (ap p first ∙ value_is 126 _) in
    subst AsksNothing (sym (l.invariant.2 ∙ member_refused p (members_with l.found) l.invariant.0 k l.reader s named none)) tt

pub returns-in-Ok-None-clause-members : goal.returns-in-Ok-None-clause-members
returns-in-Ok-None-clause-members c =
    let l = c.members in
    l.invariant.2 ∙ members_over (value 126) (members_with l.found) l.invariant.0 l.reader c.next_key.new.self l.invariant.1 (grind arith)

pub returns-in-Err-clause-members : goal.returns-in-Err-clause-members
returns-in-Err-clause-members c =
    let l = c.members in
    subst AsksNothing (sym (l.invariant.2 ∙ key_refused (value 126) (members_with l.found) l.invariant.0 l.reader c.in-Err.ensures.value)) tt
