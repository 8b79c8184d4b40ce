-- A lookup over an accepted table, by what the code has read. Assumes nothing.
use Rattle.std.specs.Prelude.{Some, Result, Ok, Option, None, Err}
use Prim.Native.Nat.{ℕ, ◌≤◌, ◌<◌}
use mathlib.Core.Bool.{true}
use mathlib.Core.List.{List}
use mathlib.Core.Path.{◌≡◌, sym, ap, ap₂, ◌∙◌}
use borrow.Author.Tests.{lt-ltb, le-ltb}
use Rattle.model.specs.Tree.{tree_of, is_directory}
use Rattle.model.specs.TableCheck.{table_check}
use Rattle.model.specs.Halving.{halving}
use Rattle.model.specs.Lookup.{missing, looked_up, lookup_in, lookup_name}
use Rattle.model.specs.declared.Errno.TheVariants.{Euclean, Enoent, Ebadf, Enotdir}
use Rattle.model.specs.declared.Broken.{Broken}
use Rattle.model.specs.declared.Entry.{Entry}
use Rattle.model.specs.declared.Miss.{Miss}
use Rattle.laws.proofs.Acceptance.{accepted-sound, lookup-inside}
use Rattle.laws.proofs.HalvingLaws.{halving-lookup}
use Rattle.laws.proofs.EntryLaws.{is-directory, not-directory}
use Rattle.name_search.specs.Halvings.{halving_of}
use Rattle.name_search.specs.declared.Halving.{Halving}

-- a table that is refused
pub lookup-broken : (s : List ℕ) (n : ℕ) (name : List ℕ) {v : Result Unit Broken} {b : Broken} → v ≡ table_check s → v ≡ Err b → missing Euclean 0 ≡ lookup_name s n name
unfolding lookup_name
lookup-broken s n name is e = sym (rw (sym is ∙ e))

module _ (s : List ℕ) (accepted : table_check s ≡ Ok tt) (n : ℕ) (name : List ℕ) where
  pub no_node : (tree_of s).nodes ≤ n → missing Ebadf 0 ≡ lookup_name s n name
  unfolding lookup_name lookup_in
  no_node h = sym (rw (accepted, le-ltb n (tree_of s).nodes h))

  module _ (below : n < (tree_of s).nodes) where
    pub no-directory : {kind : ℕ} → kind ≡ (tree_of s).kind n → (kind ≡ 1 → ⊥) → missing Enotdir 0 ≡ lookup_name s n name
    unfolding lookup_name lookup_in
    no-directory is k = sym (rw (accepted, lt-ltb n (tree_of s).nodes below, not-directory (tree_of s) n (λ e. k (is ∙ e))))

module _ (s : List ℕ) (n : ℕ) where
  pub directory-is : {kind : ℕ} → n < (tree_of s).nodes → kind ≡ (tree_of s).kind n → kind ≡ 1 → is_directory (tree_of s) n ≡ true
  directory-is below is k = is-directory (tree_of s) n below (sym is ∙ k)

module _ (s : List ℕ) (accepted : table_check s ≡ Ok tt) (n : ℕ) (name : List ℕ) (directory : is_directory (tree_of s) n ≡ true) {h : Halving}
    (is : h ≡ halving_of (halving (tree_of s) n name)) where
  entry_of : {o : Option ℕ} → h.found ≡ o → (halving (tree_of s) n name).entry ≡ o
  entry_of e = sym (ap (λ (x : Halving). x.found) is) ∙ e

  pub found_inside : {e : ℕ} → h.found ≡ Some e → e < (tree_of s).entries
  found_inside {e} f =
      let sound = accepted-sound s accepted in
      lookup-inside (tree_of s) sound.nodes_hold.directories_hold n name e directory (sym (halving-lookup (tree_of s) sound n directory name) ∙ entry_of f)

  module _ (below : n < (tree_of s).nodes) where
    searched : lookup_name s n name ≡ looked_up (tree_of s) (halving (tree_of s) n name).entry (halving (tree_of s) n name).compared
    unfolding lookup_name lookup_in
    searched = rw (accepted, lt-ltb n (tree_of s).nodes below, directory)

    pub lookup-found : {e node : ℕ} → h.found ≡ Some e → node ≡ (tree_of s).entry_node e
        → ◌≡◌ {A = Result Entry Miss} (Ok (record { number = e; node = node; compared = h.compared })) (lookup_name s n name)
    lookup-found {e} f k =
        sym (searched ∙ ap₂ (looked_up (tree_of s)) (entry_of f) (sym (ap (λ (x : Halving). x.compared) is))
        ∙ ap (λ (m : ℕ). Ok (record { number = e; node = m; compared = h.compared })) (sym k))

    pub lookup-missed : h.found ≡ None → missing Enoent h.compared ≡ lookup_name s n name
    lookup-missed f =
        sym (searched ∙ ap₂ (looked_up (tree_of s)) (entry_of f) (sym (ap (λ (x : Halving). x.compared) is)))
