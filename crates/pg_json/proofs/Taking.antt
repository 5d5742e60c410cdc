-- What stays when a member is taken out of an object.
use Rattle.std.proofs.Common.{◌≡◌, ◌≢◌, ℕ, List, [], ◌∷◌, Bool, true, false, cond, String, Global, nat_cmp, string_bytes, refl, sym, ◌∙◌}
use Rattle.std.proofs.lemmas.Map.Text.{is_eq-slice_cmp}
use Rattle.std.proofs.lemmas.Slice.Eq.{bytes_eq-Decides}
use Rattle.std.specs.BTreeMap.{is_at}
use Rattle.std.specs.Cmp.Lexicographic.{slice_cmp}
use Rattle.std.specs.Map.{remove_entry}
use Rattle.serde_json.specs.View.{members_view}
use Rattle.serde_json.specs.Find.{get_member}
use Rattle.serde_json.proofs.Views.{Entry, member_later}

-- the test by which a map finds a name
abbrev is_named : List ℕ → String Global → Bool
is_named name k = is_at (λ s. slice_cmp nat_cmp name (string_bytes s)) k

same_name : (name : List ℕ) (k : String Global) → is_named name k ≡ true → name ≡ string_bytes k
same_name name k e = (bytes_eq-Decides name (string_bytes k)).0 (sym (is_eq-slice_cmp name (string_bytes k)) ∙ e)

removed_at : (b : Bool) (k name : List ℕ) (e : Entry) (es : List Entry) (left : List Entry) → is_named name e.0 ≡ b → k ≢ name
    → get_member k (members_view left) ≡ get_member k (members_view es)
    → get_member k (members_view (cond b es (e ∷ left))) ≡ get_member k (members_view (e ∷ es))
removed_at true k name e es left is other later = sym (member_later k e es (λ h. other (h ∙ sym (same_name name e.0 is))))
removed_at false k name e es left is other later = rw later

pub get_member-remove_entry : (k name : List ℕ) (es : List Entry) → k ≢ name
    → get_member k (members_view (remove_entry (is_named name) es)) ≡ get_member k (members_view es)
get_member-remove_entry k name [] other = refl
get_member-remove_entry k name (e ∷ es) other = removed_at (is_named name e.0) k name e es (remove_entry (is_named name) es) refl other (get_member-remove_entry k name es other)
