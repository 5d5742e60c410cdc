-- Bodies and the requests that they are, byte for byte: some that the definition accepts, and some that it refuses.
use Rattle.std.specs.Prelude.{◌≡◌, ℕ, zero, suc, ◌-◌, ◌^◌, pos, negsuc, true, false, [], ◌∷◌, ◌++◌, Some, None, is_some, codes}
use Rattle.serde_json.specs.Data.{Data, number, unsigned, negative, array, member, no_members, item, no_items}
use Rattle.pg_json.specs.Parameters.{parameters_in, value_of_data}
use Rattle.pg_json.specs.Requests.{query, status, create_index, drop_index, begin, commit, rollback, pull, drop_page, with_token, meaning, number_in}
use Rattle.pg_meaning.specs.Value as value
use Rattle.pg_meaning.specs.Value.{Entries, no_entries, entry, integer, list, mapping}

-- p: [1, {k: null}]
abbrev pub p_given : Entries
p_given = entry (codes "p") (list (value.item (integer (pos 1)) (value.item (mapping (entry (codes "k") value.null no_entries)) value.no_items))) no_entries

abbrev pub BodiesAreRequests : Type 0
BodiesAreRequests =
    (meaning (codes "{\"op\":\"status\",\"token\":\"a\"}") ≡ Some (status (codes "a")))
    × (meaning (codes "{\"op\":\"begin\",\"token\":\"a\"}") ≡ Some (begin (codes "a")))
    × (meaning (codes "{\"op\":\"commit\",\"token\":\"a\"}") ≡ Some (commit (codes "a")))
    × (meaning (codes "{\"op\":\"rollback\",\"token\":\"a\"}") ≡ Some (rollback (codes "a")))
    × (meaning (codes "{\"op\":\"create_index\",\"token\":\"a\",\"label\":\"P\",\"key\":\"k\"}") ≡ Some (create_index (codes "a") (codes "P") (codes "k")))
    × (meaning (codes "{\"op\":\"drop_index\",\"token\":\"a\",\"label\":\"P\",\"key\":\"k\"}") ≡ Some (drop_index (codes "a") (codes "P") (codes "k")))
    × (meaning (codes "{\"token\":\"a\",\"text\":\"t\",\"op\":\"query\"}") ≡ Some (query (codes "a") (codes "t") no_entries None))
    × (meaning (codes "{\"op\":\"query\",\"token\":\"a\",\"text\":\"t\",\"params\":{\"p\":[1,{\"k\":null}]},\"page\":7}") ≡ Some (query (codes "a") (codes "t") p_given (Some 7)))
    × (meaning (codes "{\"op\":\"pull\",\"token\":\"a\",\"page\":3}") ≡ Some (pull (codes "a") 3))
    × (meaning (codes "{\"op\":\"drop_page\",\"token\":\"a\",\"page\":3}") ≡ Some (drop_page (codes "a") 3))
    × (meaning (codes "{\"op\":\"status\",\"op\":\"begin\",\"token\":\"a\"}") ≡ Some (begin (codes "a")))
    × (meaning (codes "{\"op\":\"status\",\"token\":\"\"}") ≡ Some (status []))
    × (meaning (codes "{\"op\":\"query\",\"token\":\"a\",\"text\":\"t\",\"page\":10000}") ≡ Some (query (codes "a") (codes "t") no_entries (Some 10000)))
    × (meaning (codes "{\"op\":\"pull\",\"token\":\"a\",\"page\":9223372036854775807}") ≡ Some (pull (codes "a") 9223372036854775807))

-- another operation, a key too many, one that lacks, one of the wrong type; no object, no JSON, no UTF-8
abbrev pub BodiesAreRefused : Type 0
BodiesAreRefused =
    (meaning (codes "{\"op\":\"stat\",\"token\":\"a\"}") ≡ None)
    × (meaning (codes "{\"op\":\"status\",\"token\":\"a\",\"text\":\"\"}") ≡ None)
    × (meaning (codes "{\"op\":\"commit\",\"token\":\"a\",\"page\":1}") ≡ None)
    × (meaning (codes "{\"op\":\"create_index\",\"token\":\"a\",\"label\":\"\",\"key\":\"k\"}") ≡ None)
    × (meaning (codes "{\"op\":\"create_index\",\"token\":\"a\",\"label\":\"P\",\"key\":\"\"}") ≡ None)
    × (meaning (codes "{\"op\":\"drop_index\",\"token\":\"a\",\"label\":\"P\"}") ≡ None)
    × (meaning (codes "{\"op\":\"query\",\"token\":\"a\"}") ≡ None)
    × (meaning (codes "{\"op\":\"query\",\"token\":\"a\",\"text\":1}") ≡ None)
    × (meaning (codes "{\"op\":\"query\",\"token\":\"a\",\"text\":\"t\",\"params\":[]}") ≡ None)
    × (meaning (codes "{\"op\":\"query\",\"token\":\"a\",\"text\":\"t\",\"label\":\"P\"}") ≡ None)
    × (meaning (codes "{\"op\":\"query\",\"text\":\"t\"}") ≡ None)
    × (meaning (codes "{\"op\":\"pull\",\"token\":\"a\"}") ≡ None)
    × (meaning (codes "{\"op\":\"pull\",\"token\":\"a\",\"page\":\"3\"}") ≡ None)
    × (meaning (codes "{\"op\":\"pull\",\"token\":\"a\",\"page\":3,\"text\":\"t\"}") ≡ None)
    × (meaning (codes "[\"status\"]") ≡ None)
    × (meaning (codes "{\"op\":\"status\",\"token\":\"a\"") ≡ None)
    × (meaning [] ≡ None)
    × (meaning (255 ∷ []) ≡ None)
    × (meaning (codes "{\"op\":\"query\",\"token\":\"a\",\"text\":\"t\",\"page\":0}") ≡ None)
    × (meaning (codes "{\"op\":\"query\",\"token\":\"a\",\"text\":\"t\",\"page\":10001}") ≡ None)
    × (meaning (codes "{\"op\":\"status\",\"token\":\"" ++ 255 ∷ codes "\"}") ≡ None)

-- lists within lists, one more than the number
abbrev pub nested : ℕ → Data
nested zero = array no_items
nested (suc n) = array (item (nested n) no_items)

-- whole numbers of 64 bits with a sign, pages of 1 to 10,000 rows, values that nest 64 deep
abbrev pub InstancesOfNumbers : Type 0
InstancesOfNumbers =
    (value_of_data (number (unsigned (2 ^ 63 - 1))) ≡ Some (integer (pos (2 ^ 63 - 1))))
    × (value_of_data (number (unsigned (2 ^ 63))) ≡ None)
    × (value_of_data (number (negative (negsuc 0))) ≡ Some (integer (negsuc 0)))
    × (number_in 1 10000 (number (unsigned 10000)) ≡ Some 10000)
    × (number_in 1 10000 (number (unsigned 10001)) ≡ None)
    × (number_in 1 10000 (number (unsigned 0)) ≡ None)
    × (number_in 0 10 (number (negative (negsuc 0))) ≡ None)
    × (is_some (parameters_in (member (codes "p") (nested 63) no_members)) ≡ true)
    × (is_some (parameters_in (member (codes "p") (nested 64) no_members)) ≡ false)

-- a request that is answered again for its tenant shows another token, and is the same else
abbrev pub InstancesOfTokens : Type 0
InstancesOfTokens =
    (with_token (codes "b") (query (codes "a") (codes "t") p_given (Some 2)) ≡ query (codes "b") (codes "t") p_given (Some 2))
    × (with_token (codes "b") (create_index (codes "a") (codes "P") (codes "k")) ≡ create_index (codes "b") (codes "P") (codes "k"))
    × (with_token (codes "b") (drop_index (codes "a") (codes "P") (codes "k")) ≡ drop_index (codes "b") (codes "P") (codes "k"))
    × (with_token (codes "b") (commit (codes "a")) ≡ commit (codes "b"))
    × (with_token (codes "b") (rollback (codes "a")) ≡ rollback (codes "b"))
    × (with_token (codes "b") (pull (codes "a") 3) ≡ pull (codes "b") 3)
    × (with_token (codes "b") (drop_page (codes "a") 3) ≡ drop_page (codes "b") 3)
