-- Replies byte for byte: each refusal, what is done, a status, elements, rows and pages.
use Rattle.std.specs.Prelude.{◌≡◌, ℕ, true, false, List, [], ◌∷◌, Some, None, codes}
use Rattle.serde_json.specs.Data.{Items, string, boolean, item, no_items, member, no_members}
use Rattle.serde_json.specs.Written.{compact_text}
use Rattle.pg_json.specs.Pages.{paged_text, pulled_text, query_text, row_text}
use Rattle.pg_json.specs.Refusals.{refusal_text, done_text}
use Rattle.pg_json.specs.Replies.{items_of, index_data, natural, node_data, path_data, rel_data, status_data}
use Rattle.pg_json.specs.Rows.{rows_text}
use Rattle.pg_meaning.specs.declared.fault.Fault.TheVariants.{FrameTooLong, BadRequest, UnknownToken, ReadOnly, TextTooLong, BadLexeme, BadSyntax, TooDeep, UndefinedVariable, VariableAlreadyBound, BadAggregate, BadPattern, UnknownFunction, DuplicateColumn, MissingParameter, TypeFault, Overflow, DivisionByZero, ValueTooLarge, NotStorable, MergeNull, NodeStillConnected, DeletedEntity, NegativeCount, StepQuota, ElementQuota, IdsExhausted, IndexExists, NoSuchIndex, TooManyIndexes, ReplyTooLong, TenantBusy, NoTransaction, TransactionOpen, NoSuchPage, HeldRowsQuota, OutOfMemory}

abbrev pub RefusalsAreTold : Type 0
RefusalsAreTold =
    (refusal_text FrameTooLong ≡ codes "{\"code\":1,\"error\":\"FrameTooLong\"}")
    × (refusal_text BadRequest ≡ codes "{\"code\":2,\"error\":\"BadRequest\"}")
    × (refusal_text UnknownToken ≡ codes "{\"code\":3,\"error\":\"UnknownToken\"}")
    × (refusal_text ReadOnly ≡ codes "{\"code\":4,\"error\":\"ReadOnly\"}")
    × (refusal_text TextTooLong ≡ codes "{\"code\":5,\"error\":\"TextTooLong\"}")
    × (refusal_text BadLexeme ≡ codes "{\"code\":6,\"error\":\"BadLexeme\"}")
    × (refusal_text BadSyntax ≡ codes "{\"code\":7,\"error\":\"BadSyntax\"}")
    × (refusal_text TooDeep ≡ codes "{\"code\":8,\"error\":\"TooDeep\"}")
    × (refusal_text UndefinedVariable ≡ codes "{\"code\":9,\"error\":\"UndefinedVariable\"}")
    × (refusal_text VariableAlreadyBound ≡ codes "{\"code\":10,\"error\":\"VariableAlreadyBound\"}")
    × (refusal_text BadAggregate ≡ codes "{\"code\":11,\"error\":\"BadAggregate\"}")
    × (refusal_text BadPattern ≡ codes "{\"code\":12,\"error\":\"BadPattern\"}")
    × (refusal_text UnknownFunction ≡ codes "{\"code\":13,\"error\":\"UnknownFunction\"}")
    × (refusal_text DuplicateColumn ≡ codes "{\"code\":14,\"error\":\"DuplicateColumn\"}")
    × (refusal_text MissingParameter ≡ codes "{\"code\":15,\"error\":\"MissingParameter\"}")
    × (refusal_text TypeFault ≡ codes "{\"code\":16,\"error\":\"TypeFault\"}")
    × (refusal_text Overflow ≡ codes "{\"code\":17,\"error\":\"Overflow\"}")
    × (refusal_text DivisionByZero ≡ codes "{\"code\":18,\"error\":\"DivisionByZero\"}")
    × (refusal_text ValueTooLarge ≡ codes "{\"code\":19,\"error\":\"ValueTooLarge\"}")
    × (refusal_text NotStorable ≡ codes "{\"code\":20,\"error\":\"NotStorable\"}")
    × (refusal_text MergeNull ≡ codes "{\"code\":21,\"error\":\"MergeNull\"}")
    × (refusal_text NodeStillConnected ≡ codes "{\"code\":22,\"error\":\"NodeStillConnected\"}")
    × (refusal_text DeletedEntity ≡ codes "{\"code\":23,\"error\":\"DeletedEntity\"}")
    × (refusal_text NegativeCount ≡ codes "{\"code\":24,\"error\":\"NegativeCount\"}")
    × (refusal_text StepQuota ≡ codes "{\"code\":25,\"error\":\"StepQuota\"}")
    × (refusal_text ElementQuota ≡ codes "{\"code\":26,\"error\":\"ElementQuota\"}")
    × (refusal_text IdsExhausted ≡ codes "{\"code\":27,\"error\":\"IdsExhausted\"}")
    × (refusal_text IndexExists ≡ codes "{\"code\":28,\"error\":\"IndexExists\"}")
    × (refusal_text NoSuchIndex ≡ codes "{\"code\":29,\"error\":\"NoSuchIndex\"}")
    × (refusal_text TooManyIndexes ≡ codes "{\"code\":30,\"error\":\"TooManyIndexes\"}")
    × (refusal_text ReplyTooLong ≡ codes "{\"code\":31,\"error\":\"ReplyTooLong\"}")
    × (refusal_text TenantBusy ≡ codes "{\"code\":40,\"error\":\"TenantBusy\"}")
    × (refusal_text NoTransaction ≡ codes "{\"code\":41,\"error\":\"NoTransaction\"}")
    × (refusal_text TransactionOpen ≡ codes "{\"code\":42,\"error\":\"TransactionOpen\"}")
    × (refusal_text NoSuchPage ≡ codes "{\"code\":43,\"error\":\"NoSuchPage\"}")
    × (refusal_text HeldRowsQuota ≡ codes "{\"code\":44,\"error\":\"HeldRowsQuota\"}")
    × (refusal_text OutOfMemory ≡ codes "{\"code\":99,\"error\":\"OutOfMemory\"}")
    × (done_text ≡ codes "{\"code\":0}")

abbrev pub one_column : Items
one_column = item (string (codes "a")) no_items

abbrev pub row_of : ℕ → Items
row_of n = item (natural n) no_items

abbrev pub two_rows : List Items
two_rows = row_of 1 ∷ row_of 20 ∷ []

-- an index, and the numbers of a status in the order of their names
abbrev pub InstancesOfStatuses : Type 0
InstancesOfStatuses =
    (compact_text (status_data 1 (items_of (index_data (codes "P") (codes "k") ∷ [])) 2 3 4 5)
    ≡ codes "{\"code\":0,\"elements\":1,\"indexes\":[[\"P\",\"k\"]],\"max_elements\":2,\"max_steps\":3,\"next_node\":4,\"next_rel\":5}")
    × (compact_text (node_data 6 (item (string (codes "P")) no_items) (member (codes "k") (boolean true) no_members))
    ≡ codes "{\"$node\":6,\"labels\":[\"P\"],\"properties\":{\"k\":true}}")
    × (compact_text (rel_data 6 7 no_members 8 (codes "K"))
    ≡ codes "{\"$rel\":6,\"end\":7,\"properties\":{},\"start\":8,\"type\":\"K\"}")
    × (compact_text (path_data (row_of 9)) ≡ codes "{\"$path\":[9]}")

-- all rows at once, some of them, and some more; the places where columns and rows end, where these are noted
abbrev pub InstancesOfRows : Type 0
InstancesOfRows =
    (rows_text one_column two_rows 4 ≡ codes "{\"code\":0,\"columns\":[\"a\"],\"rows\":[[1],[20]],\"steps\":4}")
    × (paged_text one_column (Some 5) (codes "[1]" ∷ codes "[20]" ∷ []) 4 ≡ codes "{\"code\":0,\"columns\":[\"a\"],\"page\":5,\"rows\":[[1],[20]],\"steps\":4}")
    × (paged_text one_column None [] 4 ≡ codes "{\"code\":0,\"columns\":[\"a\"],\"page\":null,\"rows\":[],\"steps\":4}")
    × (pulled_text (Some 5) (codes "[1]" ∷ []) ≡ codes "{\"code\":0,\"page\":5,\"rows\":[[1]]}")
    × (pulled_text None [] ≡ codes "{\"code\":0,\"page\":null,\"rows\":[]}")
    × (row_text (row_of 20) ≡ codes "[20]")
    × ((query_text true one_column two_rows 4).columns_end ≡ 25)
    × ((query_text true one_column two_rows 4).row_ends ≡ 37 ∷ 42 ∷ [])
    × ((query_text false one_column two_rows 4).columns_end ≡ 0)
    × ((query_text false one_column two_rows 4).row_ends ≡ [])
    × ((query_text true one_column two_rows 4).text ≡ rows_text one_column two_rows 4)
