-- What is asked for, by the name of the operation.
use Rattle.std.proofs.Common.{◌≡◌, ℕ, List, true, false, Some, None, option_and_then, refl, sym, ap, ◌∙◌}
use Rattle.std.specs.Prelude.{codes}
use Rattle.std.specs.Str.{bytes_eq}
use Rattle.serde_json.specs.Data.{Members}
use Rattle.pg_json.specs.Requests.{text_at, by_op, object_request, with_only, query_keys, query_of, token_keys, of_token, index_keys, index_of, page_keys, of_page, status, create_index, drop_index, begin, commit, rollback, pull, drop_page}

module _ (ms : Members) (op : List ℕ) (named : Some op ≡ text_at (codes "op") ms) where
  by_its_name : object_request ms ≡ by_op op ms
  by_its_name = ap (option_and_then (λ o. by_op o ms)) (sym named)

  pub query_asked : true ≡ bytes_eq op (codes "query") → with_only query_keys ms (query_of ms) ≡ object_request ms
  query_asked query = sym (by_its_name ∙ rw (← query) refl)

  module _ (no_query : false ≡ bytes_eq op (codes "query")) where
    pub status_asked : true ≡ bytes_eq op (codes "status") → with_only token_keys ms (of_token status ms) ≡ object_request ms
    status_asked named_so = sym (by_its_name ∙ rw (← no_query, ← named_so) refl)

    module _ (no_status : false ≡ bytes_eq op (codes "status")) where
      pub create_asked : true ≡ bytes_eq op (codes "create_index") → with_only index_keys ms (index_of create_index ms) ≡ object_request ms
      create_asked create = sym (by_its_name ∙ rw (← no_query, ← no_status, ← create) refl)

      module _ (no_create : false ≡ bytes_eq op (codes "create_index")) where
        pub drop_asked : true ≡ bytes_eq op (codes "drop_index") → with_only index_keys ms (index_of drop_index ms) ≡ object_request ms
        drop_asked drop = sym (by_its_name ∙ rw (← no_query, ← no_status, ← no_create, ← drop) refl)

        module _ (no_drop : false ≡ bytes_eq op (codes "drop_index")) where
          pub begin_asked : true ≡ bytes_eq op (codes "begin") → with_only token_keys ms (of_token begin ms) ≡ object_request ms
          begin_asked named_so = sym (by_its_name ∙ rw (← no_query, ← no_status, ← no_create, ← no_drop, ← named_so) refl)

          module _ (no_begin : false ≡ bytes_eq op (codes "begin")) where
            pub commit_asked : true ≡ bytes_eq op (codes "commit") → with_only token_keys ms (of_token commit ms) ≡ object_request ms
            commit_asked named_so = sym (by_its_name ∙ rw (← no_query, ← no_status, ← no_create, ← no_drop, ← no_begin, ← named_so) refl)

            module _ (no_commit : false ≡ bytes_eq op (codes "commit")) where
              pub rollback_asked : true ≡ bytes_eq op (codes "rollback") → with_only token_keys ms (of_token rollback ms) ≡ object_request ms
              rollback_asked named_so = sym (by_its_name ∙ rw (← no_query, ← no_status, ← no_create, ← no_drop, ← no_begin, ← no_commit, ← named_so) refl)

              module _ (no_rollback : false ≡ bytes_eq op (codes "rollback")) where
                pub pull_asked : true ≡ bytes_eq op (codes "pull") → with_only page_keys ms (of_page pull ms) ≡ object_request ms
                pull_asked named_so = sym (by_its_name ∙ rw (← no_query, ← no_status, ← no_create, ← no_drop, ← no_begin, ← no_commit, ← no_rollback, ← named_so) refl)

                module _ (no_pull : false ≡ bytes_eq op (codes "pull")) where
                  pub drop_page_asked : true ≡ bytes_eq op (codes "drop_page") → with_only page_keys ms (of_page drop_page ms) ≡ object_request ms
                  drop_page_asked named_so = sym (by_its_name ∙ rw (← no_query, ← no_status, ← no_create, ← no_drop, ← no_begin, ← no_commit, ← no_rollback, ← no_pull, ← named_so) refl)

                  pub none_asked : false ≡ bytes_eq op (codes "drop_page") → None ≡ object_request ms
                  none_asked no_drop_page = sym (by_its_name ∙ rw (← no_query, ← no_status, ← no_create, ← no_drop, ← no_begin, ← no_commit, ← no_rollback, ← no_pull, ← no_drop_page) refl)
