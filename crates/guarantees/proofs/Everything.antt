-- Written by tests/tools/everything.py: `unfolding everything` opens every definition of specs/, so that examples compute.
use Prim.Native.Nat.{ℕ}

unfoldable pub everything : ℕ
unfolding Rattle.laws.specs.Integers.min_z Rattle.laws.specs.Integers.max_z Rattle.laws.specs.Integers.min4 Rattle.laws.specs.Integers.max4 Rattle.laws.specs.Integers.floor_div Rattle.laws.specs.Integers.floor_mod Rattle.laws.specs.Lists.tab Rattle.laws.specs.Lists.all_below Rattle.laws.specs.Lists.among Rattle.laws.specs.Lists.occurrences Rattle.laws.specs.Lists.position Rattle.laws.specs.Lists.sum Rattle.laws.specs.Lists.concat Rattle.laws.specs.Lists.last_or Rattle.laws.specs.Numbering.count Rattle.laws.specs.Numbering.ravel Rattle.laws.specs.Numbering.coord Rattle.laws.specs.Store.store Rattle.plan.specs.Answers.in_turn Rattle.plan.specs.Answers.written Rattle.plan.specs.Operations.uses Rattle.plan.specs.Operations.is_new Rattle.plan.specs.Operations.is_operation Rattle.plan.specs.Operations.in_file Rattle.plan.specs.Operations.mask_of Rattle.plan.specs.Operations.masks Rattle.plan.specs.Types.holds Rattle.plan.specs.Types.contains Rattle.plan.specs.Types.range_of Rattle.plan.specs.Words.size_of Rattle.plan.specs.Words.node_of Rattle.plan.specs.Words.words_of Rattle.plan.specs.Words.node_at Rattle.plan.specs.Words.reads Rattle.plan.specs.Words.node_count Rattle.plan.specs.Words.length_right Rattle.plan.specs.Words.unused_zero Rattle.plan.specs.Words.over_params Rattle.codec.specs.Numbers.groups_at Rattle.codec.specs.Numbers.number_at Rattle.codec.specs.Numbers.word_of Rattle.codec.specs.Plans.read_word Rattle.codec.specs.Plans.edition_at Rattle.codec.specs.Plans.none_new Rattle.codec.specs.Plans.edition_of Rattle.codec.specs.Plans.read_node Rattle.codec.specs.Plans.add_node Rattle.codec.specs.Plans.unpack Rattle.codec.specs.Steps.Stands Rattle.codec.specs.Steps.one_word Rattle.codec.specs.Steps.node_words Rattle.codec.specs.Steps.nodes_at Rattle.codec.specs.Steps.head_at Rattle.codec.specs.Steps.count_at Rattle.codec.specs.Steps.opening_at Rattle.codec.specs.Steps.all_nodes Rattle.packing.specs.Bytes.groups_of Rattle.packing.specs.Bytes.bytes_of Rattle.packing.specs.Bytes.packed_word Rattle.packing.specs.Packing.used_in_range Rattle.packing.specs.Packing.words_to Rattle.packing.specs.Packing.node_bytes Rattle.packing.specs.Packing.pack_node Rattle.packing.specs.Packing.pack Rattle.packing.specs.Writing.Ended Rattle.shapes.specs.Rows.extents_of Rattle.shapes.specs.Rows.row_of Rattle.shapes.specs.Rows.is_shape_row Rattle.shapes.specs.Rows.is_flag_row Rattle.shapes.specs.Rows.is_offset_row Rattle.shapes.specs.Rows.is_permutation Rattle.shapes.specs.Rules.same_rank Rattle.shapes.specs.Rules.same_shape Rattle.shapes.specs.Rules.aligned Rattle.shapes.specs.Rules.can_broadcast Rattle.shapes.specs.Rules.broadcast Rattle.shapes.specs.Rules.shapes_agree Rattle.shapes.specs.Rules.permuted Rattle.shapes.specs.Rules.reduced Rattle.shapes.specs.Rules.gathered_extents Rattle.shapes.specs.Rules.result_extents Rattle.shapes.specs.Shown.capped Rattle.shapes.specs.Sources.permute_source Rattle.shapes.specs.Sources.flip_source Rattle.shapes.specs.Sources.expand_source Rattle.shapes.specs.Sources.in_source Rattle.shapes.specs.Sources.pad_source Rattle.shapes.specs.Sources.shrink_source Rattle.shapes.specs.Sources.source_element Rattle.shapes.specs.Sources.broadcast_source Rattle.shapes.specs.Sources.reduce_source Rattle.shapes.specs.Sources.gathered Rattle.bounds.specs.Rules.corners Rattle.bounds.specs.Rules.add_bounds Rattle.bounds.specs.Rules.mul_bounds Rattle.bounds.specs.Rules.max_bounds Rattle.bounds.specs.Rules.idiv_bounds Rattle.bounds.specs.Rules.mod_bounds Rattle.bounds.specs.Rules.min_bounds Rattle.bounds.specs.Rules.where_bounds Rattle.bounds.specs.Rules.cmplt_bounds Rattle.bounds.specs.Rules.disjoint Rattle.bounds.specs.Rules.all_ends_equal Rattle.bounds.specs.Rules.cmpne_bounds Rattle.bounds.specs.Rules.gathered_count Rattle.bounds.specs.Rules.reduce_bounds Rattle.bounds.specs.Rules.stack_bounds Rattle.bounds.specs.Rules.result_bounds Rattle.rules.specs.Rules.source_of Rattle.rules.specs.Rules.sources_earlier Rattle.rules.specs.Rules.type_named Rattle.rules.specs.Rules.types_agree Rattle.rules.specs.Rules.device_named Rattle.rules.specs.Rules.param_right Rattle.rules.specs.Rules.stack_number Rattle.rules.specs.Rules.rows_right Rattle.rules.specs.Rules.shape_right Rattle.rules.specs.Rules.one_device Rattle.rules.specs.Rules.join_device Rattle.rules.specs.Rules.devices_agree Rattle.rules.specs.Rules.result_device Rattle.rules.specs.Rules.divisor_right Rattle.rules.specs.Rules.result_type Rattle.rules.specs.Rules.derived_of Rattle.rules.specs.Rules.bounds_in_type Rattle.verifier.specs.Check.derive_node Rattle.verifier.specs.Check.node_rules Rattle.verifier.specs.Check.check_node Rattle.verifier.specs.Check.total_of Rattle.verifier.specs.Check.verdict Rattle.verifier.specs.Check.derived_words Rattle.verifier.specs.Check.check Rattle.verifier.specs.Check.unpack_check Rattle.verifier.specs.Listing.digits Rattle.verifier.specs.Listing.decimal Rattle.verifier.specs.Listing.signed Rattle.verifier.specs.Listing.joined Rattle.verifier.specs.Listing.shape_text Rattle.verifier.specs.Listing.node_line Rattle.verifier.specs.Listing.listing Rattle.verifier.specs.Meets.rule_holds Rattle.cells.specs.Cells.fold_cells Rattle.cells.specs.Cells.binary Rattle.cells.specs.Cells.reduction Rattle.cells.specs.Nodes.stack_cell Rattle.cells.specs.Nodes.eval_cell Rattle.cells.specs.Nodes.eval_node Rattle.runner.specs.Inputs.input_limits Rattle.runner.specs.Inputs.input_cell Rattle.runner.specs.Inputs.input_cells Rattle.runner.specs.Inputs.test_input Rattle.runner.specs.Inputs.test_inputs Rattle.runner.specs.Run.field_of Rattle.runner.specs.Run.operands_of Rattle.runner.specs.Run.node_field Rattle.runner.specs.Run.fields_to Rattle.runner.specs.Run.run_accepted Rattle.runner.specs.Run.run Rattle.runner.specs.Run.gap_count Rattle.runner.specs.Run.all_cells Rattle.lookup.specs.Following.follow Rattle.lookup.specs.Following.is_there Rattle.lookup.specs.Following.lookup
everything = 0
