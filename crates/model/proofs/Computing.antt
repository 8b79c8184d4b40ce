-- What proofs that compute on real bytes unfold, part by part: to unfold one of these is to unfold all that its line names. Assumes nothing.
use Rattle.model.specs.Bytes.{field, field_bytes, part, has, contains, same_bytes, before, find, first_failing, ascii}
use Rattle.model.specs.Tree.{sizes_of, nodes_part, mounts_part, entries_part, text_part, tree_of, is_directory, is_link, holds, lookup, meets_within, under, mount_on, covered}
use Rattle.model.specs.TableCheck.{rule1, rule2, counts_fit, whole_length, rule3, directory_count, sum_below, counts_before, directory_holds, file_holds, symlink_holds, magic_holds}
use Rattle.model.specs.TableCheck.{node_holds, rule4, name_holds, follows, ascends, stands_in_parent, entry_holds, rule5, point_holds, shares_point, hangs, mount_holds, rule6, target_holds}
use Rattle.model.specs.TableCheck.{magic_target_holds, rule7, records_check, table_check}
use Rattle.model.specs.OpenHow.{flags_of, mode_of, padding_of, resolve_of, unknown_bit, tail_set, length_refused, mode_set, how_refused}
use Rattle.model.specs.Path.{up_to_slash, components_from, components, absolute, ends_in_slash, path_refused}
use Rattle.model.specs.Handles.{handle_refused}
use Rattle.model.specs.Trace.{meets, row, first_set, forbids, answer}
use Rattle.model.specs.Walk.{same_place, root_of, point_of, enter, to_parent, climb, at_top, go_up, magic_link, symbolic_link, follow_link, step_to, by_name, one_component, finish, transition}
use Rattle.model.specs.Walk.{walk_pending, walk, begin_at, walk_path}
use Rattle.model.specs.Resolve.{handle_unchecked, refused_after_table, refused_before, restrictions, request_of, trace_of, resolve}
use Rattle.model.specs.Descriptors.{start, slot_at, lowest_free, asked_in_vain, serve, replies_to}
use Rattle.model.proofs.BenchTree.{digit, hex_bytes, hex, bench_nodes, bench_mounts, bench_entries, bench, open_how}

-- reading a tree and looking up in it
unfoldable pub of-trees : Unit {0}
unfolding field field_bytes part has contains same_bytes before find first_failing ascii
    sizes_of nodes_part mounts_part entries_part text_part tree_of is_directory is_link holds lookup meets_within under mount_on covered
of-trees = tt

-- the counts, and the rules on records
unfoldable pub of-records : Unit {0}
unfolding counts_fit whole_length directory_count sum_below counts_before directory_holds file_holds symlink_holds magic_holds node_holds rule4
    name_holds follows ascends stands_in_parent entry_holds rule5 point_holds shares_point hangs mount_holds rule6 target_holds magic_target_holds rule7 records_check
of-records = tt

-- the table check
unfoldable pub of-tables : Unit {0}
unfolding of-trees of-records rule1 rule2 rule3 table_check
of-tables = tt

-- a walk
unfoldable pub of-walks : Unit {0}
unfolding of-trees up_to_slash components_from components absolute ends_in_slash meets row first_set forbids answer
    same_place root_of point_of enter to_parent climb at_top go_up magic_link symbolic_link follow_link step_to by_name one_component finish transition walk_pending walk begin_at walk_path
of-walks = tt

-- a call of the resolver
unfoldable pub of-calls : Unit {0}
unfolding of-tables of-walks flags_of mode_of padding_of resolve_of unknown_bit tail_set length_refused mode_set how_refused path_refused handle_refused
    handle_unchecked refused_after_table refused_before restrictions request_of trace_of resolve
of-calls = tt

-- calls of descriptors
unfoldable pub of-descriptors : Unit {0}
unfolding of-calls start slot_at lowest_free asked_in_vain serve replies_to
of-descriptors = tt

-- the bench tree's bytes
unfoldable pub of-bench : Unit {0}
unfolding ascii digit hex_bytes hex bench_nodes bench_mounts bench_entries bench open_how
of-bench = tt
