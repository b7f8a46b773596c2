-- SPDX-License-Identifier: MIT OR Apache-2.0
use Rattle.std.proofs.Common.{refl, rules}
use Rattle.ffa_spmc.proofs.Replied.{answered-beside, replied-features, replied-still, answered-as}
use Rattle.ffa_spmc.proofs.manager.Manager.reply.Goals as goal

pub returns-in-RxRelease : goal.returns-in-RxRelease
returns-in-RxRelease g c = answered-beside c.args.self.now _ _ _ _ _ c.rx_release.result c.in-RxRelease.is refl c.rx_release.ensures

pub returns-in-RxtxMap : goal.returns-in-RxtxMap
returns-in-RxtxMap g c = answered-beside c.args.self.now _ _ _ _ _ c.rxtx_map.result c.in-RxtxMap.is refl c.rxtx_map.ensures

pub returns-in-RxtxUnmap : goal.returns-in-RxtxUnmap
returns-in-RxtxUnmap g c = answered-beside c.args.self.now _ _ _ _ _ c.rxtx_unmap.result c.in-RxtxUnmap.is refl c.rxtx_unmap.ensures

pub returns-in-PartitionInfoGet : goal.returns-in-PartitionInfoGet
returns-in-PartitionInfoGet g c = answered-beside c.args.self.now _ _ _ _ _ c.partition_info_get.result c.in-PartitionInfoGet.is refl c.partition_info_get.ensures

pub returns-in-MsgWait : goal.returns-in-MsgWait
returns-in-MsgWait g c = answered-beside c.args.self.now _ _ _ _ _ c.msg_wait.result c.in-MsgWait.is refl c.msg_wait.ensures

pub returns-in-Yield : goal.returns-in-Yield
returns-in-Yield g c = answered-beside c.args.self.now _ _ _ _ _ c.yield_now.result c.in-Yield.is refl c.yield_now.ensures

pub returns-in-Run : goal.returns-in-Run
returns-in-Run g c = answered-beside c.args.self.now _ _ _ _ _ c.run_partition.result c.in-Run.is refl c.run_partition.ensures

pub returns-in-DirectRequest : goal.returns-in-DirectRequest
returns-in-DirectRequest g c = answered-beside c.args.self.now _ _ _ _ _ c.direct_request.result c.in-DirectRequest.is refl c.direct_request.ensures

pub returns-in-DirectResponse : goal.returns-in-DirectResponse
returns-in-DirectResponse g c = answered-beside c.args.self.now _ _ _ _ _ c.direct_response.result c.in-DirectResponse.is refl c.direct_response.ensures

pub returns-in-MsgSend2 : goal.returns-in-MsgSend2
returns-in-MsgSend2 g c = answered-beside c.args.self.now _ _ _ _ _ c.msg_send2.result c.in-MsgSend2.is refl c.msg_send2.ensures

pub returns-in-BitmapCreate : goal.returns-in-BitmapCreate
returns-in-BitmapCreate g c = answered-beside c.args.self.now _ _ _ _ _ c.bitmap_create.result c.in-BitmapCreate.is refl c.bitmap_create.ensures

pub returns-in-BitmapDestroy : goal.returns-in-BitmapDestroy
returns-in-BitmapDestroy g c = answered-beside c.args.self.now _ _ _ _ _ c.bitmap_destroy.result c.in-BitmapDestroy.is refl c.bitmap_destroy.ensures

pub returns-in-NotificationBind : goal.returns-in-NotificationBind
returns-in-NotificationBind g c = answered-beside c.args.self.now _ _ _ _ _ c.notification_bind.result c.in-NotificationBind.is refl c.notification_bind.ensures

pub returns-in-NotificationUnbind : goal.returns-in-NotificationUnbind
returns-in-NotificationUnbind g c = answered-beside c.args.self.now _ _ _ _ _ c.notification_unbind.result c.in-NotificationUnbind.is refl c.notification_unbind.ensures

pub returns-in-NotificationSet : goal.returns-in-NotificationSet
returns-in-NotificationSet g c = answered-beside c.args.self.now _ _ _ _ _ c.notification_set.result c.in-NotificationSet.is refl c.notification_set.ensures

pub returns-in-NotificationGet : goal.returns-in-NotificationGet
returns-in-NotificationGet g c = answered-beside c.args.self.now _ _ _ _ _ c.notification_get.result c.in-NotificationGet.is refl c.notification_get.ensures

pub returns-in-NotificationInfoGet : goal.returns-in-NotificationInfoGet
returns-in-NotificationInfoGet g c = answered-beside c.args.self.now _ _ _ _ _ c.notification_info_get.result c.in-NotificationInfoGet.is refl c.notification_info_get.ensures

pub returns-in-MemDonate : goal.returns-in-MemDonate
returns-in-MemDonate g c = answered-as c.args.self.now _ _ _ _ _ _ _ c.mem_send.result c.in-MemDonate.is c.mem_send.ensures

pub returns-in-MemLend : goal.returns-in-MemLend
returns-in-MemLend g c = answered-as c.args.self.now _ _ _ _ _ _ _ c.mem_send-in-MemLend.result c.in-MemLend.is c.mem_send-in-MemLend.ensures

pub returns-in-MemShare : goal.returns-in-MemShare
returns-in-MemShare g c = answered-as c.args.self.now _ _ _ _ _ _ _ c.mem_send-in-MemShare.result c.in-MemShare.is c.mem_send-in-MemShare.ensures

pub returns-in-MemRetrieve : goal.returns-in-MemRetrieve
returns-in-MemRetrieve g c = answered-as c.args.self.now _ _ _ _ _ _ _ c.mem_retrieve.result c.in-MemRetrieve.is c.mem_retrieve.ensures

pub returns-in-MemRelinquish : goal.returns-in-MemRelinquish
returns-in-MemRelinquish g c = answered-as c.args.self.now _ _ _ _ _ _ _ c.mem_relinquish.result c.in-MemRelinquish.is c.mem_relinquish.ensures

pub returns-in-MemReclaim : goal.returns-in-MemReclaim
returns-in-MemReclaim g c = answered-as c.args.self.now _ _ _ _ _ _ _ c.mem_reclaim.result c.in-MemReclaim.is c.mem_reclaim.ensures

pub returns-in-Version : goal.returns-in-Version
returns-in-Version g c = answered-beside c.args.self.now _ _ _ _ _ c.ffa_version.result c.in-Version.is refl c.ffa_version.ensures

pub returns-in-Features : goal.returns-in-Features
returns-in-Features g c = answered-beside c.args.self.now _ _ _ _ _ c.features.result c.in-Features.is refl (replied-features c.args.self.now c.in-Features.function c.features.result c.features.ensures)

pub returns-in-IdGet : goal.returns-in-IdGet
returns-in-IdGet g c = answered-beside c.args.self.now _ _ _ _ _ c.id.result c.in-IdGet.is refl (replied-still c.args.self.now _ c.id.result (search rules))

pub returns-in-SpmIdGet : goal.returns-in-SpmIdGet
returns-in-SpmIdGet g c = answered-beside c.args.self.now _ _ _ _ _ c.spm_id.result c.in-SpmIdGet.is refl (replied-still c.args.self.now _ c.spm_id.result (search rules))

pub returns-in-Unknown : goal.returns-in-Unknown
returns-in-Unknown g c = answered-beside c.args.self.now _ _ _ _ _ _ c.in-Unknown.is refl (replied-still c.args.self.now _ _ (search rules))
